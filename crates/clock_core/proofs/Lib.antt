pub mod Effects
pub mod Rows
pub mod Runs
pub mod Values
