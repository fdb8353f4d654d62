pub mod Calls
pub mod FileMap
pub mod Runs
