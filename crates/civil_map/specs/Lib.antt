pub mod Changes
pub mod Masks
