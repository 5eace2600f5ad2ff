pub mod Names
pub mod examples
