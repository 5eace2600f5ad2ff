pub mod Lines
pub mod Locations
pub mod Shown
pub mod SourceMap
pub mod Span
pub mod steps
