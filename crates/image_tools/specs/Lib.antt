pub mod Files
pub mod Made
pub mod DumpText
pub mod Sound
pub mod Rows
