pub mod Part
pub mod Pins
