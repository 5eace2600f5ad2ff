pub mod Parts
pub mod Selection
pub mod Unfolding
pub mod ValidBits
