pub mod ContextSteps
pub mod Declarators
pub mod StructBodies
pub mod Enumerations
pub mod Specifiers
pub mod SpecifierTrees
pub mod Parameters
pub mod FunctionHeads
