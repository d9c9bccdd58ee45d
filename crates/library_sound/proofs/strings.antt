pub mod ScannedTexts
pub mod GivenPointers
pub mod Scans
pub mod Trails
pub mod StringCalls
