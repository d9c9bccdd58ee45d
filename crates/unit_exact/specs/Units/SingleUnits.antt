-- That an analysis finds just what the run of a plain unit violates.
use Rattle.std.specs.Prelude.{◌↔◌, ℕ, List, []}
use Rattle.std.specs.List.{Contains}
use Rattle.cc_base.specs.declared.diagnostics.Diag.{Diag}
use Rattle.cc_base.specs.declared.limit_table.Limits.{Limits}
use Rattle.c_layout.specs.CheckedUnits.{UnitView}
use Rattle.cfg.specs.declared.programs.Flow.{Flow}
use Rattle.memory_model.specs.Effects.Worlds.{Violation}
use Rattle.semantics.specs.SourceMachine.SourceRuns.{found_in, Run}
use Rattle.simulation_units.specs.CheckedUnits.LookedRuns.{PassesLooks}
use Rattle.simulation_units.specs.Units.UnitRuns.{IsProgramOf}
use Rattle.entry_sound.specs.Checked.CheckedStarts.{IsUnitOf}
use Rattle.run_exact.specs.Runs.SingleRuns.{IsSingleProgram}

-- the run of a unit under no numbers of the outside violates the rule at the place, within some turns
pub record RunViolates (u : UnitView) (v : Violation) : Type 0 where
  pub turns : ℕ
  pub there : Contains (found_in (Run u [] turns)) v

-- of a unit that passes the looks at its terms and scopes, the pairs that are found are just those that this run violates
abbrev pub FindsJustUnitRuns : Flow → List Diag → Type 0
FindsJustUnitRuns flow found = (u : UnitView) (limits : Limits) → IsUnitOf u flow → IsProgramOf u limits flow → PassesLooks u → IsSingleProgram flow u
    → (d : Diag) → Contains found d ↔ RunViolates u (record { at = d.place; rule = d.rule })
