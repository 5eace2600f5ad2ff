pub mod ForeignHomes
pub mod Searching
