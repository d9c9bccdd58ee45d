pub mod StructNesting
pub mod Objects
