pub mod SpareRows
