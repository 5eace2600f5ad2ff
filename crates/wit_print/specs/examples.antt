pub mod PrintExamples
