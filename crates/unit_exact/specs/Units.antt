pub mod SingleUnits
