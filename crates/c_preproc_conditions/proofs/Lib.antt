pub mod Complete
pub mod Sound
pub mod Evaluating
pub mod Expressions
pub mod Lines
pub mod DefinedNames
