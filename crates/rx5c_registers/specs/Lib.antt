pub mod Alarms
pub mod File
pub mod Clock
pub mod Ringing
pub mod Standing
