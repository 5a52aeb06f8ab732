pub mod WrapLaws
pub mod BoundLaws
