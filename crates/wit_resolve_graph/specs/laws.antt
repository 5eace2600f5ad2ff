pub mod RunLaws
pub mod SemverLaws
