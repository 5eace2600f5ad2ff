pub mod TrackExamples
