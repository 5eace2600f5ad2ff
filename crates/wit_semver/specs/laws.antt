pub mod TrackLaws
pub mod Unchanged
