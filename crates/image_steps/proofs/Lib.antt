pub mod Extension
pub mod SlotLemmas
pub mod KeptHeaders
pub mod TailLemmas
pub mod StoreStep
pub mod EntryStep
pub mod LinkStep
