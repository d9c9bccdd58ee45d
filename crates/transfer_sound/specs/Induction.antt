pub mod SoundEnds
pub mod Covering
