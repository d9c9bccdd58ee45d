pub mod TypedCopies
pub mod CopyLaws
