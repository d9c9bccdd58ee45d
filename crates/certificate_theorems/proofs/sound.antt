pub mod FittedNumbers
pub mod FittedCells
pub mod KindPlaces
pub mod FittedRows
pub mod CertifiedMaps
pub mod SoundCertificates
pub mod WorkedCertificate
pub mod WorkedAnalysis
