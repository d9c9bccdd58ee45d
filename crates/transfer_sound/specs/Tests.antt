pub mod ScalarObjects
