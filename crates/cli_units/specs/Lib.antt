pub mod Stages
pub mod Judging
pub mod Certifying
pub mod Replaying
