pub mod NameFacts
pub mod OptionFacts
pub mod ReadFacts
pub mod RequestFacts
