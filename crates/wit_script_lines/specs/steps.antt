pub mod LineWords
pub mod Parts
pub mod ReadResult
pub mod Request
