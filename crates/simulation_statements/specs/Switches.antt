pub mod ValueEdges
pub mod SwitchTargets
