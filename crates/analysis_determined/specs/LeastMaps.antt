pub mod ExactAnalyses
pub mod LeastAnalyses
pub mod CountedSteps
