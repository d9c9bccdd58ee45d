pub mod Slots
pub mod StatementPlaces
pub mod Switches
pub mod TermPlaces
