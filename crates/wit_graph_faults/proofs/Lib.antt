mod Asked
mod Carried
pub mod Clauses
pub mod OneFault
pub mod Ranges
