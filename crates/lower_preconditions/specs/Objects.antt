pub mod PlainObjects
