pub mod Labels
pub mod Entries
pub mod Ends
pub mod Lasts
pub mod Finds
