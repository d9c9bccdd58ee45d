mod Bodies
mod Calls
mod Jumps
mod Starts
mod Turns
pub mod Runs
