pub mod Among
pub mod InitDeclarators
pub mod Initializing
pub mod Rows
pub mod Signs
pub mod Specifying
pub mod Words
