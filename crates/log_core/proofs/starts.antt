-- Every start meets the invariant.
pub mod StartViews
pub mod StartFacts
pub mod StartSeats
pub mod StartSlots
pub mod StartWords
pub mod StartChain
pub mod StartLogs
pub mod StartOrder
pub mod StartChains
pub mod StartOwners
pub mod StartSnapshots
pub mod StartFiles
pub mod StartContents
pub mod StartHistory
pub mod StartMeets
pub mod StartKept
