pub mod TextPlaces
pub mod GreatestRows
pub mod CellPlaces
pub mod CellReading
pub mod BlockReading
pub mod FilledMaps
pub mod MapReading
pub mod OwnReading
