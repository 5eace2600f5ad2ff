pub mod CommandLines
pub mod Explained
pub mod Placed
pub mod Reasons
pub mod Staged
