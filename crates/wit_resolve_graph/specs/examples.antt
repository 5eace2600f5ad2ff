pub mod Examples
pub mod FilesExamples
pub mod SourceNamesExamples
pub mod SourcesExamples
