mod FewerObjects
pub mod SuitedStatements
mod SuitedTerms
