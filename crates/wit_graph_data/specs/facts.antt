pub mod ContentFacts
pub mod ResultFacts
