pub mod ListPlaces
pub mod NamedTables
pub mod MadeParts
pub mod NamedPlaces
pub mod InlinedPieces
pub mod InlinedCopies
