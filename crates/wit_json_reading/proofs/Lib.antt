pub mod Digits
mod Marks
mod Members
mod Steps
mod ByMoves
mod Lines
