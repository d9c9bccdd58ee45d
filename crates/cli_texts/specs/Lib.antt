pub mod Reports
pub mod Refusals
pub mod JsonReports
pub mod FixedTexts
pub mod Summaries
pub mod LoadUnits
pub mod HelpTexts
