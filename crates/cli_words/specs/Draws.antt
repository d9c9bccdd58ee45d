pub mod DrawNumbers
pub mod DrawsFiles
