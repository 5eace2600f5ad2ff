pub mod Graphs
pub mod News
pub mod Output
pub mod laws
