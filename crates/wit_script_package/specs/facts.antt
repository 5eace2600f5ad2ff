pub mod DraftFacts
