pub mod Onlooker
pub mod Calls
pub mod Start
pub mod Complete
pub mod Example
