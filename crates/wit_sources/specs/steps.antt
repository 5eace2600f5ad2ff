pub mod Locations
pub mod Marks
