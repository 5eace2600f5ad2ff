pub mod Merging
pub mod Parts
pub mod Replacing
pub mod SemverMerged
