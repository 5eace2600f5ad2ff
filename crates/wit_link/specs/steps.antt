pub mod CachesMarks
pub mod Checked
pub mod GroupOrderSteps
pub mod Including
pub mod Parts
