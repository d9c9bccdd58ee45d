pub mod Tests
pub mod Conditions
