pub mod StatementEnds
