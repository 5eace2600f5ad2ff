pub mod LookUps
mod Referring
pub mod Refusals
