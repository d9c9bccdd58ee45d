pub mod FunctionDeclarations
pub mod ExternalDeclarations
