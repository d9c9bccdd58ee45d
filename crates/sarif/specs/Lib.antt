pub mod Uris
pub mod Reports
pub mod Baselines
pub mod Comparing
pub mod Keys
pub mod Streams
pub mod Laws
