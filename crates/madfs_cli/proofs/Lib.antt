pub mod CommandLemmas
pub mod ImageLemmas
pub mod TraceLemmas
pub mod OutcomeLemmas
pub mod RequestLemmas
pub mod RunLemmas
