pub mod TransformExamples
