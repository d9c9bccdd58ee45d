pub mod Changes
mod EnumeratorNumbers
pub mod Declaring
mod Enumerating
mod StructBodies
pub mod Specifying
pub mod Heads
