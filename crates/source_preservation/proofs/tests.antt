pub mod DecidedTests
pub mod MatchedCases
