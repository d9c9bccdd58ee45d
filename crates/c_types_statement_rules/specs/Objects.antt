pub mod Changes
pub mod LocalObjects
pub mod FileObjects
pub mod UnitObjects
