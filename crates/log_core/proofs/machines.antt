-- Machines within a core.
pub mod GoneOn
pub mod Serving
pub mod Bare
pub mod Takes
pub mod Entering
pub mod Parts
pub mod Framing
pub mod MachineLaws
pub mod OneStep
pub mod Agreeing
pub mod OnCore
pub mod Silent
