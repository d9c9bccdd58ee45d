pub mod Depths
mod ZeroRows
