pub mod LeastMaps
