pub mod Sources
pub mod UnnamedOnce
