pub mod BorrowLaws
pub mod CopyLaws
pub mod GrowingLaws
pub mod MergingLaws
pub mod Names
pub mod OrderLaws
