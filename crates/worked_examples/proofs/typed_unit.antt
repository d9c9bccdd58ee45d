pub mod TypedDivision
pub mod ExcludedPointers
