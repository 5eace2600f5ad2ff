pub mod Methods
pub mod Pieces
