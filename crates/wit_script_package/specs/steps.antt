pub mod Built
pub mod DraftResult
pub mod Mention
pub mod Mentioning
pub mod Parts
pub mod Pushable
