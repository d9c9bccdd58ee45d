pub mod Cursors
pub mod Seeking
pub mod StoreLists
