pub mod CountedCallees
