pub mod Texts
pub mod SpelledCells
pub mod SpelledZeros
pub mod SpelledRows
pub mod SpellSteps
pub mod FollowedArrays
mod Counterexamples
