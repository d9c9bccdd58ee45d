pub mod QuietLists
pub mod QuietTerms
pub mod QuietTurns
pub mod Reached
