pub mod Growth
pub mod GrowingTerms
pub mod GrowingStatements
pub mod GrowingWorks
pub mod NameTables
pub mod PlannedPieces
