pub mod Headers
pub mod Library
