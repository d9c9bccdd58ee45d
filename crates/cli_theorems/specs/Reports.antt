pub mod OneReports
