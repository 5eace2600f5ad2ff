pub mod SemverMerged
pub mod facts
pub mod laws
pub mod steps
