pub mod SingleNumbers
pub mod ExactNumbers
pub mod SingleValues
pub mod SingleRows
pub mod SingleSteps
pub mod SingleLaws
