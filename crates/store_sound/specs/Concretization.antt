pub mod SeenLabels
pub mod FirstZeroBytes
pub mod Matching
pub mod Places
pub mod ValueMeaning
pub mod SoundMemory
pub mod RowMeaning
pub mod Coverage
