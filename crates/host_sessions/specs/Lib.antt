pub mod Sessions
pub mod Driven
pub mod Laws
