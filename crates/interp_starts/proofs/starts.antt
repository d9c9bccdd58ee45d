pub mod TextContents
pub mod LastInstances
pub mod Literals
