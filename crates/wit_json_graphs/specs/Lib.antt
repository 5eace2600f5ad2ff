pub mod Details
pub mod Resolves
pub mod Writable
pub mod laws
pub mod steps
