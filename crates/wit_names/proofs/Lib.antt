pub mod Cuts
pub mod Kebab
pub mod Tracks
pub mod UsePathGrammar
pub mod VersionErrors
pub mod Versions
