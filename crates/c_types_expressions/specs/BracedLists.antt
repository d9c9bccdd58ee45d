pub mod BracedLists
pub mod Initializers
