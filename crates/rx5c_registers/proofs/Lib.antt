pub mod Days
pub mod Effects
pub mod Rows
pub mod Passing
pub mod Ringing
pub mod Standing
