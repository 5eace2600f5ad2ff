pub mod FeatureSteps
pub mod ForeignItems
