pub mod Composing
pub mod GiveOneWithin
pub mod GivingOne
pub mod LackingAlone
pub mod LosingFew
pub mod WriteAlone
pub mod WriteWithin
pub mod Writing
