pub mod KeptMaps
