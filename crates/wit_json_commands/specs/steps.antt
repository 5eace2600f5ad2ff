pub mod Outcomes
pub mod Paths
pub mod Placed
pub mod Searching
pub mod Withdrawn
