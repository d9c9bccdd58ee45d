pub mod StructTables
pub mod LostLeaves
