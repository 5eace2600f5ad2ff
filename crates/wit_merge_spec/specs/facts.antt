pub mod DifferenceFacts
pub mod StructureFacts
pub mod Unchanged
