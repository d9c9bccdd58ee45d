pub mod Lives
pub mod ScopedTerms
pub mod ScopedStatements
pub mod Livings
