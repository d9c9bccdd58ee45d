pub mod TextCells
pub mod TextZeros
pub mod TextRows
pub mod SourceCharacters
pub mod TextRules
pub mod TextWrites
pub mod TextCalls
pub mod TextSteps
