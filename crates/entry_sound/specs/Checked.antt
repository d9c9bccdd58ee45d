pub mod CheckedStarts
