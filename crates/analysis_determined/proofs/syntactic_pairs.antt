mod TreePlaces
mod SameTerms
mod SameStatements
pub mod SameUnits
