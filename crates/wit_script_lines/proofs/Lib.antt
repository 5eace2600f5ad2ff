mod Arguments
pub mod Each
pub mod Forms
pub mod Gated
pub mod LineWords
pub mod Spaces
pub mod Words
