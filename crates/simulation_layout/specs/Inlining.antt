pub mod NameRanges
