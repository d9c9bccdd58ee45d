pub mod Halts
pub mod Made
pub mod ScalarTypes
pub mod FirstScans
