pub mod Stops
pub mod WrongCalls
pub mod WrongJumps
pub mod WrongBranches
