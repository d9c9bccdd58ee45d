pub mod FewLeaves
pub mod ListedStructs
pub mod LostLeaves
mod WorkedTables
