pub mod Accepting
pub mod Greatest
pub mod KeptKeys
pub mod Merged
pub mod TypesAfter
pub mod TypesGood
