pub mod KeptMarks
