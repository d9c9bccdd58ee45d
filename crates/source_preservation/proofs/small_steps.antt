mod Replies
mod Keeping
mod Changes
mod Calls
mod Objects
mod Conditions
mod Switches
pub mod Turns
