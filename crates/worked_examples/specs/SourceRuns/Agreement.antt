-- What a run of a unit and one of its control-flow program have in common.
use Rattle.std.specs.Prelude.{◌≡◌, ℕ, ℤ, List}
use Rattle.c_layout.specs.CheckedUnits.{UnitView}
use Rattle.lower_templates.specs.Views.ProgramViews.{FlowView}
use Rattle.semantics.specs.CfgMachine.FlowStates as flow
use Rattle.semantics.specs.CfgMachine.FlowStates.{FlowRun}
use Rattle.semantics.specs.CfgMachine.FlowSteps.{flow_steps}
use Rattle.semantics.specs.CfgMachine.FlowStarts.{flow_begin}
use Rattle.semantics.specs.SourceMachine.SourceRuns as source
use Rattle.semantics.specs.SourceMachine.SourceRuns.{SourceRun, Run}

-- both have come to the same memory with the same numbers of the outside left, have violated the same rules at
-- the same places in the same order, and have stopped for the same cause or not at all
pub record Agree (s : SourceRun) (r : FlowRun) : Type 0 where
  pub memory : (source.world_of s).memory ≡ (flow.world_of r).memory
  pub draws : (source.world_of s).draws ≡ (flow.world_of r).draws
  pub found : source.found_in s ≡ flow.found_in r
  pub why : source.why_of s ≡ flow.why_of r

-- each run of a unit agrees with one of a program: after each number of turns of the unit there is a number of
-- steps of the program
abbrev pub IsSimulatedBy : UnitView → FlowView → Type 0
IsSimulatedBy u f = (draws : List ℤ) (turns : ℕ) → (steps : ℕ) × Agree (Run u draws turns) (flow_steps f steps (flow_begin u f draws))

-- the statement for a way of lowering: each run of a unit is one of each program that it is lowered to. It is
-- not proved yet
abbrev pub EachRunIsOneOfItsProgram : (UnitView → FlowView → Type 0) → Type 0
EachRunIsOneOfItsProgram IsLoweredTo = (u : UnitView) (f : FlowView) → IsLoweredTo u f → IsSimulatedBy u f
