pub mod TransformLaws
