pub mod RemainingUses
pub mod Selection
pub mod ValidBits
pub mod facts
pub mod laws
pub mod steps
