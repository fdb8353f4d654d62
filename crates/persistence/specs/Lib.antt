pub mod Cells
pub mod Choices
pub mod Memory
pub mod Rows
pub mod Steps
pub mod Survivors
