pub mod PlanClosures
pub mod TermPlans
pub mod ConditionPlans
pub mod StatementPlans
pub mod FunctionPlans
pub mod PlannedWorks
pub mod LabelCounts
