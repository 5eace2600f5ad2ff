pub mod TokenExamples
