pub mod Cells
pub mod DayLaws
