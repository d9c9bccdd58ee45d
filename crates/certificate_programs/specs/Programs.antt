pub mod Certificates
pub mod ReadMaps
