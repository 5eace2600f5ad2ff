pub mod Appending
pub mod Caches
pub mod GroupOrder
pub mod facts
pub mod steps
