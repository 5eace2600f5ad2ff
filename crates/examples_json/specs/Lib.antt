pub mod values
pub mod runs
