mod Replies
mod Values
mod Switches
mod Objects
mod Conversions
mod Turns
mod Runs
mod Rows
