pub mod RegionWrites
