pub mod Answer
pub mod Prints
pub mod Ready
pub mod Script
pub mod World
pub mod facts
pub mod laws
pub mod steps
