pub mod Sites
pub mod SpelledTexts
pub mod ScalarTests
pub mod SoundParts
