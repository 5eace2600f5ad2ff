pub mod Pointers
pub mod Stays
