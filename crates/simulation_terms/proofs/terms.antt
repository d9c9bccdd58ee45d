pub mod Branches
pub mod ConditionTests
pub mod Choices
pub mod Conditions
pub mod PlainForms
pub mod OtherForms
pub mod Terms
