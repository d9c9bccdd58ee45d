pub mod Staging
pub mod Answered
