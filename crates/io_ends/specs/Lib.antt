pub mod Faults
pub mod Taking
pub mod Giving
pub mod Planned
pub mod Standard
