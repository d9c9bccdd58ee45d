-- A map that the solver finds for a program's system.
use Rattle.std.specs.Prelude.{◌≡◌, ℤ, List, Option}
use Rattle.std.proofs.Common.{subst}
use Rattle.cc_base.specs.Machine.{IsMonotone}
use Rattle.cc_base.specs.InductiveMap.{IsInductive, IsLeast}
use Rattle.cfg.specs.declared.programs.Flow.{Flow}
use Rattle.value_domain.specs.declared.values.row_cells.Cell.{Cell}
use Rattle.interval_domain.specs.declared.intervals.intervals.Interval.{Interval}
use Rattle.analysis.specs.Analyses.{row_lattice, machine_of}

-- a map of a program's system with numbers of a list
pub record IsSolved (flow : Flow) (list : List ℤ) (rows : List (Option (List (Cell Interval)))) : Type 0 where
  pub inductive : IsInductive row_lattice (machine_of flow list) rows
  pub least : IsMonotone row_lattice (machine_of flow list) → IsLeast row_lattice (machine_of flow list) rows

pub solved_as : (flow flow' : Flow) (list list' : List ℤ) (rows : List (Option (List (Cell Interval)))) → flow ≡ flow' → list ≡ list' → IsInductive row_lattice (machine_of flow list) rows → (IsMonotone row_lattice (machine_of flow list) → IsLeast row_lattice (machine_of flow list) rows) → IsSolved flow' list' rows
solved_as flow flow' list list' rows e f i l =
    subst (λ z. IsSolved flow' z rows) f (subst (λ z. IsSolved z list rows) e (record { inductive = i; least = l }))
