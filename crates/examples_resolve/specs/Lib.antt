pub mod graph
pub mod merge
pub mod script
