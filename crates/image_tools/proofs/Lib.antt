pub mod StartLemmas
pub mod FileLemmas
pub mod MadeLemmas
pub mod BitLemmas
pub mod DumpLemmas
pub mod TestLemmas
