pub mod ExactLoads
pub mod Moves
pub mod StoredRows
pub mod ExactStores
pub mod ExactForgets
pub mod ExactClears
