pub mod Layers
pub mod Listing
pub mod Reading
pub mod Turns
