pub mod Handles
pub mod steps
