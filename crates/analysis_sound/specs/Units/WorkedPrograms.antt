-- A program with which all that the soundness of analyses supposes holds.
use Rattle.std.specs.Prelude.{◌≡◌, ℤ, true, List, Option}
use Rattle.std.specs.List.{Contains}
use Rattle.cc_base.specs.declared.diagnostics.Diag.{Diag}
use Rattle.c_layout.specs.CheckedUnits.{UnitView}
use Rattle.cfg.specs.declared.programs.Flow.{Flow}
use Rattle.interval_domain.specs.declared.intervals.intervals.Interval.{Interval}
use Rattle.interval_domain.specs.Intervals.IntervalLattice.{interval_lattice}
use Rattle.interval_domain.specs.Intervals.IntervalNumbers.{interval_numbers}
use Rattle.value_domain.specs.declared.values.row_cells.Cell.{Cell}
use Rattle.diagnose.specs.Operands.TypedRows.{is_typed_map}
use Rattle.memory_model.specs.Effects.Worlds.{Violation}
use Rattle.analysis_determined.specs.Analyses.{IsAnalysis}
use Rattle.analysis_determined.specs.CheckedPrograms.{IsChecked}
use Rattle.transfer_system.specs.System.FlowMachines.{has_start}
use Rattle.transfer_system.specs.System.RegularPrograms.{is_regular}
use Rattle.analysis_sound.specs.Analyses.SoundAnalyses.{IsViolatedIn}
use Rattle.entry_sound.specs.Tables.UnitStarts.{StartsAs}

-- what an analysis asks of its program, in each map of rows, and that the program begins with what is in the unit's tables
pub record MeetsAllPremises (flow : Flow) (list : List ℤ) (u : UnitView) : Type 0 where
  pub regular : is_regular flow list ≡ true
  pub started : has_start interval_lattice interval_numbers flow ≡ true
  pub checked : IsChecked flow list
  pub typed : (rows : List (Option (List (Cell Interval)))) → is_typed_map interval_lattice interval_numbers flow rows ≡ true
  pub starts : StartsAs u flow

-- the pair is violated in a run of the unit, and among what each analysis of the program finds
pub record IsFoundIn (flow : Flow) (list : List ℤ) (u : UnitView) (v : Violation) : Type 0 where
  pub violated : IsViolatedIn flow u v
  pub all : (found : List Diag) → IsAnalysis flow list found → Contains found (record { place = v.at; rule = v.rule })
