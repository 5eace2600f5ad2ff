pub mod Arranging
pub mod Examples
pub mod Marks
pub mod PostOrderLaws
pub mod SearchSteps
pub mod Searching
pub mod Stack
