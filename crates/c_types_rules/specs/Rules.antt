pub mod IntegerKinds
pub mod ConstantFolding
pub mod TypeWords
pub mod TypeConversions
pub mod TypeSizes
