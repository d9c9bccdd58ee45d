mod Changes
mod Calls
mod Turns
mod Runs
