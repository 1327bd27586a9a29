pub mod Levels
pub mod Phase
pub mod Rules
pub mod Bytes
pub mod Bursts
pub mod Laws
