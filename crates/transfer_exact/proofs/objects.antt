pub mod ExactEnters
pub mod LeftBases
pub mod LeftValues
pub mod LeftRows
pub mod ExactLeaves
