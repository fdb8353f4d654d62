pub mod LookAlone
pub mod LookSees
pub mod LookWithin
pub mod Looking
pub mod RangeLowering
pub mod Ranges
