pub mod Verdicts
pub mod KeptPools
