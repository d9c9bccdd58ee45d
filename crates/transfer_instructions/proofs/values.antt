pub mod Lies
mod Rows
