pub mod Transformed
pub mod examples
pub mod facts
pub mod laws
pub mod steps
