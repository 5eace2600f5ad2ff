pub mod PlacedFacts
