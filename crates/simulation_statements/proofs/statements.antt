pub mod Declarations
pub mod Sequences
pub mod Selections
pub mod Loops
pub mod ForLoops
pub mod Labelled
