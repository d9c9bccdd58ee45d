pub mod SoundAnalyses
pub mod SoundParts
