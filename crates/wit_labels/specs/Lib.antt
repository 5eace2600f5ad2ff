pub mod Groups
pub mod Rename
pub mod Setters
pub mod Strong
pub mod examples
pub mod facts
pub mod steps
