mod Rows
mod SameTables
