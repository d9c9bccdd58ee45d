pub mod Literals
pub mod Parameters
pub mod StartedRows
pub mod StaticBytes
