pub mod PlacedStores
