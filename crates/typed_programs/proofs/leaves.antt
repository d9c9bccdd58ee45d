pub mod ByteEnds
pub mod ListedLeaves
pub mod ScalarLeaves
pub mod EmptyTypes
pub mod ShortParts
pub mod StructLeaves
