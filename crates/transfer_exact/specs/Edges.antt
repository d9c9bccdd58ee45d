pub mod WayLaws
pub mod TestLaws
