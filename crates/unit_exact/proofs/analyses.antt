pub mod RightOperands
pub mod PlainObjects
pub mod SingleAnalyses
