pub mod Scopes
pub mod SuitedStatements
pub mod Chains
pub mod Contexts
