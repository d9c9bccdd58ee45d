pub mod NearBounds
pub mod ToldRows
pub mod UnmixedRows
pub mod LargerRows
pub mod EdgeEnds
pub mod CarriedMaps
