pub mod PackageName
pub mod Track
pub mod UsePath
pub mod examples
pub mod facts
pub mod steps
