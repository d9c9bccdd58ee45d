pub mod LibraryNames
pub mod Words
pub mod Layers
pub mod Arguments
pub mod Begins
mod LiteralRows
