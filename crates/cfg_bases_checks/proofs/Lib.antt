pub mod KindReads
pub mod SameLengths
pub mod PartsLeft
