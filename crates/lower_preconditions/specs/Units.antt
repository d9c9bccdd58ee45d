pub mod LabelNumbers
pub mod RegularStatements
pub mod RegularTerms
pub mod RegularUnits
pub mod ScopeObjects
pub mod StatementGroups
pub mod TermGroups
