pub mod Asks
pub mod SharedWords
