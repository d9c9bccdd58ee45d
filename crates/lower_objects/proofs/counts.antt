pub mod Slots
pub mod SharedTurns
