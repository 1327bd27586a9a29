pub mod Masking
pub mod StepLaws
