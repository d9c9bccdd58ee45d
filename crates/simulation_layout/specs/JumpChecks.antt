pub mod RegularJumps
