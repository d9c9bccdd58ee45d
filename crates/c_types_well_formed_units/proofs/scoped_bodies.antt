pub mod Beside
pub mod Declared
pub mod Stated
