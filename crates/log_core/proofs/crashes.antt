-- What every crash leaves of a run.
pub mod LeftWords
pub mod LeftSlots
pub mod LeftLogs
pub mod LeftBlocks
pub mod LeftEntries
pub mod LeftSnapshots
pub mod LeftChains
pub mod LeftFiles
pub mod Stopped
pub mod ClearingSteps
pub mod Recovered
