pub mod InPlace
mod Rows
