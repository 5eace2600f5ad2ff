pub mod Classes
pub mod Filters
pub mod FreshEntries
pub mod Keys
pub mod Order
pub mod SoundFacts
