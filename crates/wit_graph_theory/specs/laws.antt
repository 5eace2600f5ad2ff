pub mod IdTexts
pub mod PackageCycles
pub mod Theory
