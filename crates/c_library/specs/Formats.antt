pub mod PrintfFormats
