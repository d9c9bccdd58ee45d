pub mod HeapBases
pub mod FirstZeros
