pub mod Endings
pub mod Pinning
pub mod Scanning
pub mod Steps
pub mod Unpinning
pub mod Within
