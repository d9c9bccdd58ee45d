pub mod LargerSpans
pub mod SpreadStructs
