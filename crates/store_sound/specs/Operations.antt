pub mod Gives
pub mod Scalars
pub mod Shapes
pub mod MemoryStatements
pub mod Statements
pub mod TouchStatements
