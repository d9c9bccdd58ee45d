pub mod Theorems
pub mod Lines
pub mod Reading
pub mod RoundTrip
pub mod Verdicts
pub mod Proved
pub mod Sound
