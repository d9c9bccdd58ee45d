-- What the analysis of a control-flow program finds.
use Rattle.std.specs.Prelude.{◌≡◌, ℤ, true, List, Option}
use Rattle.cc_base.specs.DiagnosticOrder.{IsOrderedSet}
use Rattle.cc_base.specs.Lattices.{LatticeOf}
use Rattle.cc_base.specs.Machine.{Machine, IsMonotone}
use Rattle.cc_base.specs.InductiveMap.{IsInductive, IsLeast}
use Rattle.cc_base.specs.declared.diagnostics.Diag.{Diag}
use Rattle.cfg.specs.declared.programs.Flow.{Flow}
use Rattle.value_domain.specs.declared.values.row_cells.Cell.{Cell}
use Rattle.value_domain.specs.Values.Cells.{cell_lattice}
use Rattle.interval_domain.specs.declared.intervals.intervals.Interval.{Interval}
use Rattle.interval_domain.specs.Intervals.IntervalLattice.{interval_lattice}
use Rattle.interval_domain.specs.Intervals.IntervalNumbers.{interval_numbers}
use Rattle.transfer_system.specs.System.FlowMachines.{flow_machine, has_start}
use Rattle.transfer_system.specs.System.RegularPrograms.{is_regular}
use Rattle.diagnose.specs.Diagnostics.AdmittedRules.{map_pairs}
use Rattle.diagnose.specs.Operands.TypedRows.{is_typed_map}
use Rattle.analysis.specs.CheckedPrograms.{IsChecked}

-- the lattice of a row's cells
abbrev pub row_lattice : LatticeOf (Cell Interval)
row_lattice = cell_lattice interval_lattice

-- the system of a program, with bounds rounded to the numbers of a list
abbrev pub machine_of : Flow → List ℤ → Machine (Cell Interval)
machine_of flow list = flow_machine interval_lattice interval_numbers flow list

-- the pairs that a map from blocks to rows admits
abbrev pub admitted_pairs : Flow → List (Option (List (Cell Interval))) → List Diag
admitted_pairs flow rows = map_pairs interval_lattice interval_numbers flow rows

-- the diagnostics are just the pairs that an inductive map of the program's system admits, in order and each once; it is
-- the least such map where the system is monotone
pub record IsAnalysis (flow : Flow) (list : List ℤ) (found : List Diag) : Type 0 where
  -- there is a row of the entry, and rows of the program are cut in order
  pub started : has_start interval_lattice interval_numbers flow ≡ true
  pub regular : is_regular flow list ≡ true
  -- what soundness asks beside that
  pub checked : IsChecked flow list
  pub rows : List (Option (List (Cell Interval)))
  pub inductive : IsInductive row_lattice (machine_of flow list) rows
  pub least : IsMonotone row_lattice (machine_of flow list) → IsLeast row_lattice (machine_of flow list) rows
  -- by its rows operands lie within the types that instructions name
  pub typed : is_typed_map interval_lattice interval_numbers flow rows ≡ true
  pub pairs : IsOrderedSet (admitted_pairs flow rows) found
