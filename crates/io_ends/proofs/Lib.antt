pub mod TakingLemmas
pub mod GivingLemmas
