pub mod SwitchedTrees
