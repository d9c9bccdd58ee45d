pub mod OutcomeKinds
pub mod FileChoices
pub mod OneLine
pub mod WorkedAnswers
