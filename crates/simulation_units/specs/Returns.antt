pub mod QuietTurns
pub mod Returns
