pub mod SpreadStructs
