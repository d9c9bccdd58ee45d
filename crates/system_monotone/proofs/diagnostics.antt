pub mod FewestPairs
pub mod LeastMaps
