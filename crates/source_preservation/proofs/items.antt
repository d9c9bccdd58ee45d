pub mod TypeMarks
pub mod Loops
pub mod Leading
mod LeadingArguments
mod LineReads
mod ExactOperands
mod ExactConditions
pub mod LeadingConditions
mod QuietTerms
pub mod LeadingTerms
pub mod LeadingStatements
pub mod Labels
pub mod Calls
pub mod Expanding
