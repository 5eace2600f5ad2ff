pub mod FileSearch
pub mod LineLemmas
pub mod LocationLemmas
pub mod MarkLemmas
pub mod SourceMapLemmas
pub mod Starts
