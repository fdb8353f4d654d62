pub mod MapLemmas
pub mod FitsLemmas
pub mod RunsLemmas
pub mod SlotLemmas
pub mod ChainLemmas
pub mod WalkLemmas
pub mod TestLemmas
