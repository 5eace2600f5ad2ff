pub mod ElaborationLaws
pub mod Imports
pub mod KeptByElaboration
