pub mod SameTexts
pub mod SameUnits
pub mod Accepted
pub mod Told
pub mod Answered
