pub mod FittedRows
pub mod CertifiedMaps
pub mod SoundCertificates
pub mod WorkedCertificates
