pub mod Cycles
pub mod PostOrder
pub mod Relation
pub mod examples
pub mod facts
pub mod laws
pub mod steps
