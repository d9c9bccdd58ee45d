pub mod LeafBytes
pub mod FoldedLeaves
pub mod ShapedBases
