pub mod facts
pub mod steps
