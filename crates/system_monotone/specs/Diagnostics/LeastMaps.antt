-- The least inductive map admits least.
use Rattle.std.specs.Prelude.{ℤ, List, Option, Contains}
use Rattle.cc_base.specs.InductiveMap.{IsInductive, IsLeast}
use Rattle.cc_base.specs.declared.diagnostics.Diag.{Diag}
use Rattle.cfg.specs.declared.programs.Flow.{Flow}
use Rattle.value_domain.specs.declared.values.row_cells.Cell.{Cell}
use Rattle.value_domain.specs.Values.Cells.{cell_lattice}
use Rattle.interval_domain.specs.declared.intervals.intervals.Interval.{Interval}
use Rattle.interval_domain.specs.Intervals.IntervalLattice.{interval_lattice}
use Rattle.interval_domain.specs.Intervals.IntervalNumbers.{interval_numbers}
use Rattle.transfer_system.specs.System.FlowMachines.{flow_machine}
use Rattle.diagnose.specs.Diagnostics.AdmittedRules.{map_pairs}

-- each pair that the least inductive map of intervals admits, each inductive map admits
abbrev pub AdmitsLeast : Flow → List ℤ → Type 0
AdmitsLeast flow list = (rows other : List (Option (List (Cell Interval)))) → IsInductive (cell_lattice interval_lattice) (flow_machine interval_lattice interval_numbers flow list) rows → IsLeast (cell_lattice interval_lattice) (flow_machine interval_lattice interval_numbers flow list) rows
    → IsInductive (cell_lattice interval_lattice) (flow_machine interval_lattice interval_numbers flow list) other
    → (d : Diag) → Contains (map_pairs interval_lattice interval_numbers flow rows) d → Contains (map_pairs interval_lattice interval_numbers flow other) d
