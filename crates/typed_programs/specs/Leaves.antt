pub mod StructureLeaves
