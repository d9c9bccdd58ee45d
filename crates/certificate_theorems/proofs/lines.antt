pub mod Words
pub mod Numbers
pub mod FewBases
pub mod BaseWords
pub mod CellWords
