pub mod Theorems
pub mod Values
pub mod Accesses
pub mod Spelling
pub mod Edges
