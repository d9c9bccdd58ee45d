pub mod BaseTables
pub mod InitialBytes
