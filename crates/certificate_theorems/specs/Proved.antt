pub mod AnalysedMaps
pub mod ProvedTexts
