pub mod Grown
pub mod facts
pub mod steps
