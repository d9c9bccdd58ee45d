pub mod KeptKinds
