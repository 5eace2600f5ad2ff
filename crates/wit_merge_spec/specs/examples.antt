pub mod StructureExamples
