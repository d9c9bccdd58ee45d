pub mod Choices
pub mod Assignments
pub mod UnaryOperators
pub mod SizesAndCasts
