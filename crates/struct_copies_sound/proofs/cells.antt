pub mod KeptValues
pub mod LeafWritten
pub mod LeafMade
pub mod LeafWrites
