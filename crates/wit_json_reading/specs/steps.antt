pub mod ByClosures
pub mod Parts
