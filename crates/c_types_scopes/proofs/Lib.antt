pub mod Newest
pub mod NameTexts
pub mod Steps
