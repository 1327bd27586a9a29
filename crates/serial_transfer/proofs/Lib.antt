pub mod Shifts
pub mod Clocks
pub mod Wholes
pub mod Turns
pub mod UnderWay
