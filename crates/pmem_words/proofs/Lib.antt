mod MapLemmas
mod RoomLemmas
pub mod MapLaws
pub mod PlaceLemmas
pub mod LeavingLemmas
mod GoesMore
pub mod AmongLemmas
pub mod LeadsLemmas
pub mod PlainLemmas
pub mod StageLemmas
pub mod Stages
