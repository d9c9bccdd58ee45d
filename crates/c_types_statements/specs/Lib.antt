pub mod StaticInitializers
pub mod LocalDeclarations
pub mod Statements
pub mod LabelNumbers
