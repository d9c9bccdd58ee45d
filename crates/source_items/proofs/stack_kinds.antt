pub mod FoundItems
pub mod LineCalls
pub mod SwitchLandings
pub mod ItemWalks
pub mod Leading
pub mod Loops
mod LeadingArguments
pub mod LeadingConditions
pub mod LeadingTerms
pub mod LeadingStatements
pub mod Labels
mod Rows
