pub mod CopiedValues
pub mod LeafReads
pub mod LeafWrites
pub mod CopiedZeros
pub mod StructPadding
pub mod SharedBytes
pub mod FilledStructs
pub mod StructCopies
