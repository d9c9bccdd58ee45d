pub mod Sizes
pub mod Leaves
pub mod Counts
pub mod CountedBytes
pub mod PartTexts
pub mod Laid
pub mod ShapedBases
pub mod WellFormedPremises
