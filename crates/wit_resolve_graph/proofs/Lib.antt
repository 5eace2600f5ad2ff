mod EmptyGraph
mod FilesAfter
mod Grouped
mod KeptRows
mod ListedKeys
mod Merged
mod NamesInOrder
mod OneOrder
mod Runs
mod RunsKeep
mod SemverExact
pub mod ChosenWorlds
pub mod SourceNamesLemmas
