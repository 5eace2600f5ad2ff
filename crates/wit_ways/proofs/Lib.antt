pub mod CycleNames
pub mod ForeignHomes
pub mod Groups
pub mod Outcomes
pub mod PackageRounds
pub mod Ranges
pub mod Searching
pub mod TypeRounds
