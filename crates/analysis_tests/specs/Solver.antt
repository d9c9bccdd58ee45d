pub mod Levels
pub mod LevelLaws
pub mod Tables
pub mod TableLaws
