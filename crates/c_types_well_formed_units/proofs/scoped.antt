pub mod Numbers
pub mod Seen
pub mod Rules
pub mod Typed
pub mod Filled
