pub mod Grouping
pub mod Parts
pub mod Seen
