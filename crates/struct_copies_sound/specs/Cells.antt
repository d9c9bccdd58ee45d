pub mod LeafWrites
