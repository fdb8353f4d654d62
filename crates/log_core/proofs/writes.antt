-- When a write, or a new log block, may be put into the chain: by the seat's state alone.
pub mod LaidBytes
pub mod GivenBlocks
pub mod LaidWrites
pub mod WholeWrites
pub mod OwnContents
pub mod OwnAreas
pub mod PlacedBytes
pub mod EntryWords
pub mod RunWrites
pub mod RunLists
pub mod IndirectBlocks
pub mod RunsWrites
pub mod NewLogBlocks
pub mod AskedExchanges
pub mod WriteRows
