pub mod Names
pub mod Searching
pub mod Causes
pub mod Reading
pub mod Known
pub mod Units
pub mod Told
pub mod Placed
