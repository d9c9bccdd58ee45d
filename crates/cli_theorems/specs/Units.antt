pub mod Accepted
pub mod GrammarRefusals
pub mod GivenModels
pub mod Told
pub mod ToldLoad
