pub mod CopyZeros
pub mod LeafCounts
pub mod LeafNumbers
pub mod PaddingWrites
pub mod StructCopies
pub mod CopyLengths
pub mod LaidApart
