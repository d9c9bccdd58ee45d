pub mod SizeRefusals
pub mod FirstOver
pub mod FunctionTotals
pub mod NormalizedTemplates
pub mod Preparations
pub mod PreparingSteps
