pub mod HeldValues
pub mod OperationsAgree
pub mod CallsAgree
