pub mod CarryOverPlain
pub mod LaidLemmas
pub mod LayOverPlain
pub mod OfferOverPlain
pub mod PostOverPlain
