pub mod Cause
pub mod Matches
pub mod MismatchText
pub mod Structure
pub mod Merged
pub mod examples
pub mod facts
pub mod steps
