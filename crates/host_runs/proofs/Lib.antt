pub mod Wires
pub mod GivenCells
pub mod SessionReads
pub mod EighthRises
pub mod Rows
pub mod Seats
