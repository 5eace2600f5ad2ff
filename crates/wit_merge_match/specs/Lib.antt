pub mod Differing
pub mod Remapped
pub mod facts
pub mod steps
