mod Members
mod Ends
mod Fitting
mod FittingConditions
mod FittingTerms
mod FittingStatements
mod Labels
pub mod Replies
pub mod TestReplies
mod Jumps
mod Calls
mod Turns
mod Runs
