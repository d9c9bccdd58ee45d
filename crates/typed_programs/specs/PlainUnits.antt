pub mod ShortArrays
pub mod PlainTerms
pub mod PlainStatements
pub mod PlainUnits
