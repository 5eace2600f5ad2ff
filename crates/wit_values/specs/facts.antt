pub mod Lists
pub mod VersionFacts
