pub mod Answers
pub mod Questions
pub mod Changes
pub mod Ways
pub mod Refusals
