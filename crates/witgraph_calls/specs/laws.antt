pub mod GoesOn
pub mod ToldStands
