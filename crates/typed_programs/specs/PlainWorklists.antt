pub mod LeadingPieces
pub mod SwitchLabels
