pub mod Faults
pub mod Playing
pub mod Records
pub mod Tapes
pub mod Written
