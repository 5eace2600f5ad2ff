pub mod Active
pub mod Borrows
pub mod IncomingTypes
pub mod Leading
