pub mod NumberLemmas
pub mod HistoryLemmas
pub mod FieldLemmas
pub mod WordBytesLemmas
pub mod TracePartLemmas
