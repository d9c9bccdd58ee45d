pub mod SpelledRows
pub mod CharacterLeaves
pub mod SpelledLeaves
pub mod ExactSpells
pub mod ExactLiterals
