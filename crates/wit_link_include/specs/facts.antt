pub mod AdditionFacts
pub mod ReadyFacts
pub mod RowsFacts
pub mod SeveralFacts
