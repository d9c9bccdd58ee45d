pub mod Names
pub mod MovedStates
pub mod Entries
pub mod ToldTurns
pub mod Invoked
