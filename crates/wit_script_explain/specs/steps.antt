pub mod Explained
pub mod Parts
