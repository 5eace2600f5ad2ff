pub mod FittingFacts
pub mod GrownFacts
