pub mod Sound
pub mod Tracking
pub mod Runs
pub mod Complete
pub mod Shapes
pub mod SecondsGiven
pub mod Examples
