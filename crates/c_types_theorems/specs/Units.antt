pub mod PlacedUnits
