pub mod AlikeOperations
pub mod TypedCopies
pub mod OwnParts
pub mod SingleCopies
pub mod UnrolledUnits
