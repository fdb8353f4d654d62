pub mod Commands
pub mod Images
pub mod Traces
pub mod Inputs
pub mod Replays
pub mod Outcomes
pub mod Endings
