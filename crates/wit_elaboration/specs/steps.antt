pub mod Closures
pub mod Elaborating
pub mod Elaboration
pub mod Parts
