pub mod CopyPlaces
pub mod LeafCopies
