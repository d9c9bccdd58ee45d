pub mod FewerTurns
pub mod Constructions
