-- Analyses that find just what every inductive map admits.
use Rattle.std.specs.Prelude.{◌≡◌, ℤ, true, List, Option, Contains}
use Rattle.std.specs.List.Sorted.{IsStrictlySortedBy}
use Rattle.cc_base.specs.DiagnosticOrder.{diagnostic_compare}
use Rattle.cc_base.specs.InductiveMap.{IsInductive, IsLeast}
use Rattle.cc_base.specs.declared.diagnostics.Diag.{Diag}
use Rattle.cfg.specs.declared.programs.Flow.{Flow}
use Rattle.value_domain.specs.declared.values.row_cells.Cell.{Cell}
use Rattle.interval_domain.specs.declared.intervals.intervals.Interval.{Interval}
use Rattle.interval_domain.specs.Intervals.IntervalLattice.{interval_lattice}
use Rattle.interval_domain.specs.Intervals.IntervalNumbers.{interval_numbers}
use Rattle.transfer_system.specs.System.FlowMachines.{has_start}
use Rattle.transfer_system.specs.System.RegularPrograms.{is_regular}
use Rattle.system_monotone.specs.TypedRows.{is_typed_map}
use Rattle.analysis.specs.Analyses.{row_lattice, machine_of, admitted_pairs, IsAnalysis}
use Rattle.analysis.specs.CheckedPrograms.{IsChecked}

-- every inductive map of the program's system admits the pair
abbrev pub IsAdmitted : Flow → List ℤ → Diag → Type 0
IsAdmitted flow list d = (rows : List (Option (List (Cell Interval)))) → IsInductive row_lattice (machine_of flow list) rows → Contains (admitted_pairs flow rows) d

-- the diagnostics are just the pairs that every inductive map of the program's system admits, in order and each once
pub record IsExactAnalysis (flow : Flow) (list : List ℤ) (found : List Diag) : Type 0 where
  -- there is a row of the entry, and rows of the program are cut in order
  pub started : has_start interval_lattice interval_numbers flow ≡ true
  pub regular : is_regular flow list ≡ true
  -- what soundness asks beside that
  pub checked : IsChecked flow list
  -- the least inductive map
  pub rows : List (Option (List (Cell Interval)))
  pub inductive : IsInductive row_lattice (machine_of flow list) rows
  pub least : IsLeast row_lattice (machine_of flow list) rows
  -- by its rows operands lie within the types that instructions name
  pub typed : is_typed_map interval_lattice interval_numbers flow rows ≡ true
  pub ascending : IsStrictlySortedBy diagnostic_compare found
  pub kept : (d : Diag) → IsAdmitted flow list d → Contains found d
  pub made : (d : Diag) → Contains found d → IsAdmitted flow list d

-- so is each analysis
abbrev pub AnalysesAreExact : Type 0
AnalysesAreExact = (flow : Flow) (list : List ℤ) (found : List Diag) → IsAnalysis flow list found → IsExactAnalysis flow list found
