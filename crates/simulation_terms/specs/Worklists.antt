pub mod Rooms
pub mod SuitedTerms
pub mod TemplateParts
