pub mod Layouts
pub mod Known
