mod PackageItems
pub mod AskedGates
pub mod Assembled
pub mod Assigned
pub mod Causes
pub mod Elements
pub mod Firsts
pub mod Flags
pub mod ForeignGates
pub mod FoundLists
pub mod ItemSteps
pub mod NamedItems
pub mod Ready
pub mod ReferencesStay
pub mod Remapped
pub mod Steps
pub mod TypeSteps
pub mod VersionsMet
