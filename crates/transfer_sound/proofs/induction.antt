pub mod Blocks
pub mod GoingOn
pub mod AdmittedPairs
pub mod MapPairs
pub mod Covering
