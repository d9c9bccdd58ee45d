pub mod SingleAnalyses
