pub mod AdditionRefs
pub mod NewThings
pub mod Parts
pub mod Passed
