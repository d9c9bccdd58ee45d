pub mod Stacks
pub mod SharedTurns
