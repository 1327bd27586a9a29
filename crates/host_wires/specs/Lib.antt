pub mod Record
pub mod Shifting
pub mod Laws
