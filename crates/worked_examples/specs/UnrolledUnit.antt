pub mod WorkedLoops
