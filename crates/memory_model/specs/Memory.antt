pub mod Labels
pub mod ScalarSizes
pub mod Bytes
pub mod Instances
pub mod Tags
pub mod Numbers
pub mod Scalars
