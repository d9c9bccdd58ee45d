pub mod CharacterCodes
pub mod Classes
pub mod ConstantTypes
pub mod IntegerForms
pub mod Keywords
pub mod Punctuators
