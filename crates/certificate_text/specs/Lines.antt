pub mod LineWords
pub mod DecimalWords
pub mod BaseDigits
pub mod CellTexts
pub mod CellReaders
pub mod MapLines
