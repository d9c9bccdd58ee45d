pub mod Leaps
