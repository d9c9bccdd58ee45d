pub mod DeeperScopes
pub mod SwitchArms
pub mod SwitchBlocks
pub mod SwitchGoals
pub mod SwitchPlans
