pub mod Completes
pub mod Parts
