pub mod KeptKnowledge
pub mod JoinedPieces
pub mod PointingRows
