pub mod FaultText
pub mod Faults
pub mod First
pub mod facts
pub mod steps
