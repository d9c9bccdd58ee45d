pub mod OneList
pub mod SameNumbers
