pub mod ElaborationExamples
pub mod Examples
