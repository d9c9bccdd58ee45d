pub mod Settling
pub mod Tables
pub mod Preparing
pub mod OneCount
