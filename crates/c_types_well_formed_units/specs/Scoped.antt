pub mod BlockDeclarations
pub mod SeenObjects
pub mod ScopedOperands
pub mod ScopedLaws
