pub mod Pool
pub mod Solver
