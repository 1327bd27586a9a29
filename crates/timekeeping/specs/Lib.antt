pub mod CoreCalls
pub mod Example
pub mod Law
pub mod Logs
pub mod Seconds
pub mod Worked
