pub mod Truths
pub mod SameTypes
pub mod DecidedTests
pub mod ExactNumbers
pub mod LookedOperands
pub mod LookedTerms
