pub mod ClosedMaps
pub mod Reading
pub mod Verdicts
