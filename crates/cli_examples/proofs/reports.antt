mod TextPlaces
pub mod WorkedRuns
pub mod WorkedReport
