pub mod SplitLemmas
pub mod AnswerLemmas
pub mod TextLemmas
pub mod LegalLemmas
