pub mod StructLeaves
