pub mod Nesting
pub mod KnownStructs
