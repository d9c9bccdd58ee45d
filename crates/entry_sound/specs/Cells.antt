pub mod Greatest
pub mod StaticObjects
