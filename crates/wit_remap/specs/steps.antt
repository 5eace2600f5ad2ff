pub mod Fits
pub mod Grown
pub mod Movers
pub mod Parts
