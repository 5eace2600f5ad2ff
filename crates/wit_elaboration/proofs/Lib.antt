pub mod Absorbed
pub mod AllWorlds
pub mod Closing
pub mod ColumnFacts
mod CompleteWorlds
pub mod ConflictIs
pub mod Counting
mod EachLemmas
pub mod ElaboratedIs
pub mod ElaboratedKeys
pub mod Exact
mod Examples
pub mod ExportSteps
pub mod ExportedKeys
pub mod Exporting
pub mod ExportsAgain
pub mod FirstClasses
pub mod FirstConflict
pub mod GrowingElaboration
pub mod GrowingUses
pub mod Importing
pub mod ImportsAgain
pub mod JoinedRows
pub mod Labels
pub mod LeastImports
pub mod ListedAgain
pub mod MadeEntries
pub mod Marking
pub mod MayConflict
pub mod Needs
pub mod NeedsFirst
pub mod PassMarks
mod QueryExamples
pub mod ReachedColumns
pub mod RefusedKeys
pub mod Refusing
pub mod Roles
mod SortedClasses
pub mod WorldExamples
pub mod WorldLaws
