pub mod Firsts
pub mod OneAnswer
pub mod WholeWords
pub mod Naming
pub mod SlotFacts
pub mod BlockFacts
pub mod ChainFacts
pub mod HeaderFacts
mod Fresh
mod FileHeld
pub mod Accepted
mod GoodSlots
mod GoodBlocks
mod GoodChains
mod GoodHeaders
pub mod Standing
mod WorkedRows
