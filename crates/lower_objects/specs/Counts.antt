pub mod Extents
pub mod PieceCounts
pub mod BaseCounts
pub mod SharedObjects
