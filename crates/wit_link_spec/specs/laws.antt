pub mod IncludingLaws
pub mod StageFacts
pub mod StageLaws
