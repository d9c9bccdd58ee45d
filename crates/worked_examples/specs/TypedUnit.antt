pub mod DividesByPointed
pub mod ExcludedPointers
