pub mod SameUnits
pub mod ProvedTexts
