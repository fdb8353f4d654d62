pub mod Images
pub mod Worlds
pub mod Lending
pub mod Led
