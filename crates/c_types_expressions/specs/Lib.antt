pub mod Expressions
pub mod BracedLists
