pub mod PlainNumbers
