pub mod NamingWorks
pub mod NamingConditions
pub mod NamingScopes
pub mod NamingStatements
pub mod NamingTemplates
