pub mod Characters
pub mod Fits
pub mod Lengths
pub mod Marks
pub mod NameFaults
pub mod Rows
pub mod Turns
