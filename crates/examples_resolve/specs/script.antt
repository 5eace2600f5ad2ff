pub mod LineExamples
pub mod MergeExamples
pub mod OtherExamples
pub mod PackageExamples
pub mod ScriptExamples
pub mod SmallGraphs
pub mod SourceExamples
pub mod StepExamples
