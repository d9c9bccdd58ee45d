pub mod Arguments
pub mod Climbing
pub mod Layers
pub mod Listing
pub mod Productions
mod Rows
pub mod Suffixes
pub mod Signs
pub mod Turns
pub mod Prefixes
pub mod Layering
pub mod Reading
pub mod Naming
pub mod Outcomes
pub mod Infixes
