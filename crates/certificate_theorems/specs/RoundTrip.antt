pub mod ReadableRows
pub mod ReadMaps
