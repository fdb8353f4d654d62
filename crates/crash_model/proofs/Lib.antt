pub mod ImageStanding
pub mod Standing
pub mod Surviving
pub mod Leading
pub mod Driving
pub mod Resting
