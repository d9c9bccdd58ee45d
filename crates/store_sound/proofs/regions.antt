pub mod Regions
pub mod BaseRows
pub mod Layers
pub mod RegionArrays
pub mod ByteRegions
pub mod ContentRegions
pub mod SpelledParts
