mod Rows
pub mod ApartLabels
pub mod ApartTemplates
pub mod NormalizedApart
pub mod ApartRuns
pub mod ApartPrograms
