pub mod PieceOrder
pub mod NamedBases
