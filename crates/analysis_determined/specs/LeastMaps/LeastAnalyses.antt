-- Analyses by the least inductive map.
use Rattle.std.specs.Prelude.{◌≡◌, ℤ, List, Option, Contains}
use Rattle.cc_base.specs.InductiveMap.{IsInductive, IsLeast}
use Rattle.cc_base.specs.declared.diagnostics.Diag.{Diag}
use Rattle.cfg.specs.declared.programs.Flow.{Flow}
use Rattle.value_domain.specs.declared.values.row_cells.Cell.{Cell}
use Rattle.interval_domain.specs.declared.intervals.intervals.Interval.{Interval}
use Rattle.analysis.specs.Analyses.{row_lattice, machine_of, admitted_pairs}
use Rattle.analysis_determined.specs.LeastMaps.ExactAnalyses.{IsAdmitted}

-- the least one of the inductive maps of a program's system
pub record IsLeastMap (flow : Flow) (list : List ℤ) (rows : List (Option (List (Cell Interval)))) : Type 0 where
  pub inductive : IsInductive row_lattice (machine_of flow list) rows
  pub least : IsLeast row_lattice (machine_of flow list) rows

-- the map is the least inductive one, and each inductive map admits each diagnostic
pub record IsLeastAnalysis (flow : Flow) (list : List ℤ) (found : List Diag) (rows : List (Option (List (Cell Interval)))) : Type 0 where
  pub least : IsLeast row_lattice (machine_of flow list) rows
  pub fewest : (d : Diag) → Contains found d → IsAdmitted flow list d

-- the map admits just the pairs that every inductive map admits
pub record AdmitsExactly (flow : Flow) (list : List ℤ) (rows : List (Option (List (Cell Interval)))) : Type 0 where
  pub made : (d : Diag) → Contains (admitted_pairs flow rows) d → IsAdmitted flow list d
  pub kept : (d : Diag) → IsAdmitted flow list d → Contains (admitted_pairs flow rows) d

-- two maps have the same rows, and admit the same pairs
pub record AreAlike (flow : Flow) (rows other : List (Option (List (Cell Interval)))) : Type 0 where
  pub same : rows ≡ other
  pub there : (d : Diag) → Contains (admitted_pairs flow rows) d → Contains (admitted_pairs flow other) d
  pub back : (d : Diag) → Contains (admitted_pairs flow other) d → Contains (admitted_pairs flow rows) d
