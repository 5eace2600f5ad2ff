pub mod EachFacts
pub mod KindFacts
pub mod ReferenceFacts
pub mod WorldKeyFacts
pub mod YieldedFacts
