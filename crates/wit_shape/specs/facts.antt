pub mod DistinctFacts
pub mod FirstFacts
pub mod Found
pub mod IdFacts
pub mod Prefixes
pub mod UsesInRange
