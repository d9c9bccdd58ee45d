-- That an analysis finds just what the one run of a plain program violates.
use Rattle.std.specs.Prelude.{◌↔◌, List}
use Rattle.std.specs.List.{Contains}
use Rattle.cc_base.specs.declared.diagnostics.Diag.{Diag}
use Rattle.c_layout.specs.CheckedUnits.{UnitView}
use Rattle.cfg.specs.declared.programs.Flow.{Flow}
use Rattle.entry_sound.specs.Tables.UnitStarts.{StartsAs}
use Rattle.entry_sound.specs.Checked.CheckedStarts.{IsUnitOf}
use Rattle.run_exact.specs.Runs.SingleRuns.{SwitchesAreApart, IsNeverStuckAlone, IsSingleRun, IsViolatedAlone}

-- the pairs that are found are just those that the run of the unit under no numbers of the outside violates
abbrev pub FindsJustRunOf : Flow → List Diag → UnitView → Type 0
FindsJustRunOf flow found u = SwitchesAreApart flow → IsNeverStuckAlone flow u → IsSingleRun flow u → (d : Diag) → Contains found d ↔ IsViolatedAlone flow u d.place d.rule

-- of a unit with whose tables the program begins
abbrev pub FindsJustRuns : Flow → List Diag → Type 0
FindsJustRuns flow found = (u : UnitView) → StartsAs u flow → FindsJustRunOf flow found u

-- of a checked unit whose program it is
abbrev pub FindsJustRunsOfChecked : Flow → List Diag → Type 0
FindsJustRunsOfChecked flow found = (u : UnitView) → IsUnitOf u flow → FindsJustRunOf flow found u
