pub mod Runs
mod Rows
