pub mod Steps
pub mod Parts
pub mod TypeNames
mod Primaries
mod Arguments
mod LibraryCalls
mod Calls
pub mod Expressions
