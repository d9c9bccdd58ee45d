pub mod PlainBases
pub mod PlainPrograms
