pub mod VerdictProofs
pub mod LineProofs
pub mod RowProofs
pub mod TextProofs
