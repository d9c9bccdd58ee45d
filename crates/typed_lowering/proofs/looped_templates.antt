pub mod HeldStatements
pub mod CalmWorks
pub mod CalmStatements
pub mod CalmSwitches
pub mod CalmForms
pub mod CalmFunctions
