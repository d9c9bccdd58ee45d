mod Cutting
pub mod Expanding
pub mod Parsing
pub mod Checking
pub mod Built
pub mod WorkedValues
