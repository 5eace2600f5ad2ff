pub mod FirstRenamings
pub mod Parts
pub mod Placing
pub mod Setters
pub mod Strong
