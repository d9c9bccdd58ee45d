pub mod WiderRows
pub mod AnalysedMaps
pub mod AcceptedTexts
pub mod ProvedTexts
