pub mod WorkedPlaces
pub mod WorkedTexts
pub mod WorkedTrees
pub mod WorkedUnits
