pub mod CallCycles
pub mod Certificates
