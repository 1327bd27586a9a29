pub mod PartSights
