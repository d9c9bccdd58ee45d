-- The instructions and edges of a program leave rows from a floor on, and so is the row of its entry.
use Rattle.std.specs.Prelude.{◌≡◌, ℕ, ℤ, true, List}
use Rattle.cc_base.specs.Lattices.{LatticeOf}
use Rattle.cc_base.specs.IntegerDomains.{IntegersOf}
use Rattle.cfg.specs.StaticStarts.{are_started}
use Rattle.cfg.specs.WellFormed.{names_of, fits_operation}
use Rattle.cfg.specs.declared.machine_instructions.Operation.{Operation}
use Rattle.cfg.specs.declared.programs.Flow.{Flow}
use Rattle.value_domain.specs.declared.values.row_cells.Cell.{Cell}
use Rattle.transfer_system.specs.Steps.{operate}
use Rattle.transfer_system.specs.Edges.{edge}
use Rattle.transfer_system.specs.StartRows.{start_row}
use Rattle.row_bounds.specs.Stores.Floors.{IsLeftFrom, LeavesFrom}
use Rattle.row_bounds.specs.Steps.FittingPrograms.{IsFitting}

module _ {I : Type 0} (l : LatticeOf I) (n : IntegersOf I) (floor : ℤ) (flow : Flow) where
  pub record StepsKeepFloors : Type 0 where
    -- an instruction
    pub instruction : (p : Operation) → fits_operation (names_of flow) p ≡ true → LeavesFrom n floor (λ row. operate l n flow row p)
    -- an edge
    pub edge : IsFitting flow → (number : ℕ) → LeavesFrom n floor (λ row. edge l n flow row number)
    -- whatever row the entry's is made in
    pub start : are_started flow.model flow.bases.items flow.initial.items ≡ true → (row : List (Cell I)) → IsLeftFrom n floor (start_row l n flow row)
