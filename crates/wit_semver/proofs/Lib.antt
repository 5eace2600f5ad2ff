pub mod EachElaborated
mod Elaborates
mod FewerImports
mod Filled
pub mod Kept
pub mod KeptLabels
mod KeptTold
mod Keyed
pub mod ListedUses
mod Made
mod MergedAgain
mod NewEntries
pub mod NewestNamed
mod NewestTold
mod SameTypes
mod Used
pub mod ValidSemverMerges
pub mod WorldsGood
