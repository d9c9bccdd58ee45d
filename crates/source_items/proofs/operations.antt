mod Replies
mod Values
mod Accessing
mod Operating
mod Calling
mod CallingMemory
mod CallingAll
mod Performing
