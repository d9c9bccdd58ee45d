pub mod StaticStores
