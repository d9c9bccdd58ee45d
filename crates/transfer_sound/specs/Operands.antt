pub mod TypedMaps
