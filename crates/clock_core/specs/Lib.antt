pub mod Seconds
pub mod Core
pub mod View
