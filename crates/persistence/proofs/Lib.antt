pub mod CellLaws
pub mod ChoiceLemmas
pub mod FenceLaws
mod RowLemmas
pub mod ValueLemmas
