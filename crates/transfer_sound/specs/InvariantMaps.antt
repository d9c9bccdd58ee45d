pub mod CarriedMaps
