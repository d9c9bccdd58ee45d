pub mod Members
pub mod Inlinings
pub mod Sitting
mod ReadLines
mod SittingConditions
pub mod SittingTerms
pub mod SittingStatements
pub mod SittingLoops
pub mod Labels
mod Rows
