pub mod UniqueExpressions
pub mod CompleteExpressions
pub mod UniqueUnits
pub mod CompleteDeclarations
pub mod CompleteUnits
