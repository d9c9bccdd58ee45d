pub mod Subobjects
pub mod Literals
pub mod ListStores
pub mod Initialized
pub mod Addresses
pub mod StaticStores
