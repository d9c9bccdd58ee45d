pub mod TypeRanges
pub mod Results
pub mod LoadedNumbers
pub mod ReadBack
pub mod WholeObjects
pub mod ObjectValues
pub mod Relations
pub mod Agreements
