pub mod Behind
pub mod MergeSteps
