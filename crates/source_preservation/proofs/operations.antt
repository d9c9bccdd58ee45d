pub mod StableMarks
mod Keeping
mod Accessing
mod Computing
mod GivenNumbers
mod Calling
pub mod Performing
