pub mod AgreementFacts
pub mod TestFacts
