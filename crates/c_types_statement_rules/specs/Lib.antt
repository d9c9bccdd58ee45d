pub mod Objects
pub mod StatementRules
