pub mod LookedTypes
pub mod LookedTests
pub mod LookedTerms
pub mod TermLaws
