pub mod OrderedStructs
pub mod KnownStructs
