mod Causes
pub mod IncludeSteps
pub mod JoinSteps
pub mod Keys
pub mod Members
pub mod NamesThere
pub mod OpenRows
pub mod OwnKeys
pub mod RisingIds
pub mod SelectedIndices
pub mod Several
pub mod Standing
pub mod Steps
pub mod Walking
pub mod WhatIsCopied
pub mod Words
