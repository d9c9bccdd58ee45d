pub mod WorkedAnalyses
