pub mod Cut
pub mod Operations
pub mod examples
pub mod facts
pub mod laws
pub mod steps
