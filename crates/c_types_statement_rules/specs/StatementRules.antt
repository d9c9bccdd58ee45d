pub mod BodyFlow
pub mod Points
pub mod SimpleStatements
pub mod CompoundStatements
pub mod StatementNodes
