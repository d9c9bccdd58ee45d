pub mod Growing
pub mod Types
pub mod Cursors
pub mod Lists
pub mod Filling
pub mod Initials
