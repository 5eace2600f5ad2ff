pub mod Answered
pub mod Scripts
pub mod Stepped
pub mod Waiting
