mod ClassSteps
mod CompareSteps
mod KindParts
mod Next
mod PathText
mod WalkSteps
mod WalkTurns
pub mod Apart
pub mod Mapped
pub mod Matched
pub mod NoPairs
pub mod Noted
pub mod NothingChanges
pub mod PairSteps
pub mod Passing
pub mod Steps
pub mod TypesCompared
pub mod TypesFound
