pub mod NamedTrees
