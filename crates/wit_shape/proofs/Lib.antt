pub mod Clauses
mod Differ
mod NameLists
pub mod OneFault
pub mod Telling
pub mod TypesListed
pub mod Unnamed
