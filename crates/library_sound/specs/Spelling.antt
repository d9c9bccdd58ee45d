pub mod SpellSteps
