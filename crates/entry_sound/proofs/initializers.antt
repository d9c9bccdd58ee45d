mod TypedParts
pub mod CheckedInitializers
