pub mod Texts
pub mod NearNumbers
pub mod CopiedStructs
pub mod ProgramRows
