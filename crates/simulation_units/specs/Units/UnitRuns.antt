-- Runs of a checked unit, and of the program that it is lowered to.
use Rattle.std.specs.Prelude.{◌≡◌, ◌≤◌, ◌⊎◌, ℕ, ◌-◌, ◌^◌, ℤ, true, List, Some, Ok}
use Rattle.cc_base.specs.declared.limit_table.Limits.{Limits}
use Rattle.c_layout.specs.DeclarationTrees.{ExternalTree}
use Rattle.c_layout.specs.CheckedUnits.{UnitView}
use Rattle.c_layout.specs.declared.data_model.Model.{Model}
use Rattle.c_types.specs.Units.UnitChecks.{check}
use Rattle.cfg.specs.declared.programs.Flow.{Flow}
use Rattle.cfg.specs.WellFormed.{is_well_formed}
use Rattle.lower_templates.specs.Views.ProgramViews.{flow_view}
use Rattle.semantics.specs.CfgMachine.FlowStates as flow
use Rattle.semantics.specs.CfgMachine.FlowStates.{FlowRun}
use Rattle.semantics.specs.CfgMachine.FlowSteps.{flow_steps}
use Rattle.semantics.specs.CfgMachine.FlowStarts.{flow_begin}
use Rattle.lower_preconditions.specs.Units.RegularUnits.{is_regular_unit}
use Rattle.lower.specs.Inlining.Lowerings.{IsLowering}
use Rattle.memory_model.specs.Effects.Worlds.{Stuck}
use Rattle.semantics.specs.SourceMachine.SourceRuns as source
use Rattle.semantics.specs.SourceMachine.SourceRuns.{SourceRun, Run}

-- a checked unit whose functions are regular, and the well-formed program that it is lowered to, which has no more
-- temporaries than numbers of 32 bits
pub record IsProgramOf (u : UnitView) (limits : Limits) (program : Flow) : Type 0 where
  pub model : Model
  pub name : List ℕ
  pub tree : List ExternalTree
  pub checked : check model name tree ≡ Ok u
  pub regular : is_regular_unit u ≡ true
  pub is : IsLowering u limits (flow_view program)
  pub good : is_well_formed limits program ≡ true
  pub room : limits.temps ≤ 2 ^ 32 - 1

-- both have come to the same memory with the same draws left, have violated the same rules at the same places in the same
-- order, and have stopped for the same cause or not at all
pub record Agree (s : SourceRun) (r : FlowRun) : Type 0 where
  pub memory : (source.world_of s).memory ≡ (flow.world_of r).memory
  pub draws : (source.world_of s).draws ≡ (flow.world_of r).draws
  pub found : source.found_in s ≡ flow.found_in r
  pub why : source.why_of s ≡ flow.why_of r

-- nothing is said of a run of a unit that is stuck
abbrev pub AgreeUnlessStuck : SourceRun → FlowRun → Type 0
AgreeUnlessStuck s r = (source.why_of s ≡ Some Stuck) ⊎ Agree s r

-- each run of the unit is one of the program
abbrev pub UnitRunsAreProgramRuns : Type 0
UnitRunsAreProgramRuns = (u : UnitView) (limits : Limits) (program : Flow) → IsProgramOf u limits program → (draws : List ℤ) (turns : ℕ) → (steps : ℕ) × AgreeUnlessStuck (Run u draws turns) (flow_steps (flow_view program) steps (flow_begin u (flow_view program) draws))
