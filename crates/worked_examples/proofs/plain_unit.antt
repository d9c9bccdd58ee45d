pub mod PlainDivision
