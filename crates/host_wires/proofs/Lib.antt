pub mod Clocks
pub mod Wholes
pub mod Turns
