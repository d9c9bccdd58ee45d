pub mod RegularFunctions
