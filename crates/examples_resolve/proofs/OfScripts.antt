pub mod After
pub mod FirstPackage
pub mod Mergeable
pub mod Merges
pub mod Others
pub mod Parsed
pub mod Steps
