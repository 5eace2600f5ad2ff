pub mod FaultText
pub mod Faults
pub mod steps
