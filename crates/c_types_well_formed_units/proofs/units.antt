pub mod FileSteps
pub mod HeadSteps
pub mod FileDeclarations
pub mod Signatures
pub mod HeadLayouts
pub mod Functions
pub mod Externals
pub mod Units
