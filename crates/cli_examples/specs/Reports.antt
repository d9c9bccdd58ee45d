pub mod WorkedReports
pub mod WorkedRuns
