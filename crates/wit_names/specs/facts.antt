pub mod PackageNameFacts
