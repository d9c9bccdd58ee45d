pub mod Passing
pub mod Lengths
pub mod StartSteps
pub mod StartLoops
