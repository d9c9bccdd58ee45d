pub mod EdgesExact
pub mod PointerTests
pub mod NullTests
pub mod RelabelledObjects
pub mod CaseTests
