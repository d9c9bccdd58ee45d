pub mod WorkedProgram
pub mod WorkedThresholds
pub mod Lowering
pub mod WorkedSingle
