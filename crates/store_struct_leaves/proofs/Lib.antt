pub mod Somewhere
