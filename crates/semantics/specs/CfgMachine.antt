pub mod FlowStates
pub mod FlowActs
pub mod FlowEdges
pub mod FlowSteps
pub mod FlowStarts
