pub mod Hosts
pub mod Levels
pub mod Reads
