pub mod Cells
pub mod RowLaws
pub mod MaskLaws
pub mod Map
