pub mod Telling
pub mod Choosing
pub mod Called
pub mod Gating
pub mod Certified
pub mod Judged
pub mod Running
