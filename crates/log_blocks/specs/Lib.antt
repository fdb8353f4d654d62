pub mod Taking
pub mod Walking
pub mod WalkWithin
pub mod Committing
pub mod Growing
pub mod Offering
pub mod Sealing
pub mod PutWithin
