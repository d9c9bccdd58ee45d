pub mod ByteClasses
pub mod Punctuators
pub mod Reading
pub mod Pieces
pub mod Splicing
pub mod Cutting
pub mod Answers
pub mod FileTokens
