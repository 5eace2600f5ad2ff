pub mod OffsetFacts
