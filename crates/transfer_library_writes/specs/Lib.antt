pub mod Sources
pub mod TextWrites
pub mod FillWrites
pub mod CopyWrites
