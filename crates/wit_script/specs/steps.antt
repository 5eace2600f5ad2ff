pub mod Answer
pub mod BuiltReading
pub mod Parts
pub mod Ready
pub mod Script
