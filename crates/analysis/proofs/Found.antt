-- What a map that was found for a regular program's system admits is an analysis of the program.
use Rattle.std.specs.Prelude.{◌≡◌, ℤ, true, List, Option, Result, Ok, Err, IfOk}
use Rattle.cc_base.specs.DiagnosticOrder.{IsOrderedSet}
use Rattle.cc_base.specs.declared.diagnostics.Diag.{Diag}
use Rattle.cfg.specs.declared.programs.Flow.{Flow}
use Rattle.value_domain.specs.declared.values.row_cells.Cell.{Cell}
use Rattle.interval_domain.specs.declared.intervals.intervals.Interval.{Interval}
use Rattle.interval_domain.specs.Intervals.IntervalLattice.{interval_lattice}
use Rattle.interval_domain.specs.Intervals.IntervalNumbers.{interval_numbers}
use Rattle.transfer_system.specs.System.FlowMachines.{has_start}
use Rattle.transfer_system.specs.System.RegularPrograms.{is_regular}
use Rattle.diagnose.specs.Operands.TypedRows.{is_typed_map}
use Rattle.analysis.specs.Analyses.{admitted_pairs, IsAnalysis}
use Rattle.analysis.specs.CheckedPrograms.{IsChecked}
use Rattle.analysis.proofs.SolvedMaps.{IsSolved}

module _ (flow : Flow) (list : List ℤ) (rows : List (Option (List (Cell Interval)))) (start : has_start interval_lattice interval_numbers flow ≡ true) (regular : is_regular flow list ≡ true) (checked : IsChecked flow list) (s : IsSolved flow list rows) where
  pub analysed : {V E : Type 0} (items : V → List Diag) (result : Result V E) → IfOk result (λ v. is_typed_map interval_lattice interval_numbers flow rows ≡ true) → IfOk result (λ v. IsOrderedSet (admitted_pairs flow rows) (items v)) → IfOk result (λ v. IsAnalysis flow list (items v))
  analysed items (Ok v) typed h = record {
    started = start;
    regular = regular;
    checked = checked;
    rows = rows;
    inductive = s.inductive;
    least = s.least;
    typed = typed;
    pairs = h;
  }
  analysed items (Err e) typed h = tt
