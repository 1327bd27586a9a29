pub mod Chart
pub mod Modes
