pub mod Character
pub mod Fault
pub mod Front
pub mod Keyword
pub mod Name
pub mod ReadFault
pub mod Tokens
pub mod examples
