-- Runs of units that pass the looks at their terms and scopes.
use Rattle.std.specs.Prelude.{◌≡◌, ℕ, ℤ, true, List}
use Rattle.cc_base.specs.declared.limit_table.Limits.{Limits}
use Rattle.c_layout.specs.CheckedUnits.{UnitView}
use Rattle.cfg.specs.declared.programs.Flow.{Flow}
use Rattle.lower_templates.specs.Views.ProgramViews.{flow_view}
use Rattle.semantics.specs.CfgMachine.FlowSteps.{flow_steps}
use Rattle.semantics.specs.CfgMachine.FlowStarts.{flow_begin}
use Rattle.memory_model.specs.Effects.Worlds.{World, Stuck, Violation}
use Rattle.semantics.specs.SourceMachine.SourceRuns.{stopped, Run}
use Rattle.source_preservation.specs.UnitChecks.LookedUnits.{is_well_typed}
use Rattle.source_preservation.specs.UnitChecks.LookedScopes.{is_scoped}
use Rattle.simulation_units.specs.Units.UnitRuns.{IsProgramOf, Agree}

-- a unit that passes both looks
pub record PassesLooks (u : UnitView) : Type 0 where
  pub well_typed : is_well_typed u ≡ true
  pub scoped : is_scoped u ≡ true

-- none of its runs is ever stuck
abbrev pub LookedUnitsAreNeverStuck : Type 0
LookedUnitsAreNeverStuck = (u : UnitView) → PassesLooks u → (draws : List ℤ) (n : ℕ) (w : World) (found : List Violation) (steps : ℕ) → Run u draws n ≡ stopped Stuck w found steps → ⊥

-- each of them is one of its program
abbrev pub LookedRunsAreProgramRuns : Type 0
LookedRunsAreProgramRuns = (u : UnitView) (limits : Limits) (program : Flow) → IsProgramOf u limits program → PassesLooks u → (draws : List ℤ) (turns : ℕ) → (steps : ℕ) × Agree (Run u draws turns) (flow_steps (flow_view program) steps (flow_begin u (flow_view program) draws))
