-- What the start of a program makes is an own row, and the row of the system's entry.
use Rattle.std.specs.Prelude.{◌≡◌, ℤ, true, Some, List, length, replicate}
use Rattle.cc_base.specs.Lattices.{LatticeOf}
use Rattle.cc_base.specs.IntegerDomains.{IntegersOf}
use Rattle.cfg.specs.declared.programs.Flow.{Flow}
use Rattle.value_domain.specs.declared.values.row_cells.Cell.{Cell}
use Rattle.value_domain.specs.declared.values.row_cells.Cell.TheVariants.{Nothing}
use Rattle.transfer_system.specs.StartRows.{start_row}
use Rattle.transfer_system.specs.BoundedRows.OwnRows.{is_own_row}
use Rattle.transfer_system.specs.System.FlowMachines.{has_start, start_of}

module _ {I : Type 0} (l : LatticeOf I) (n : IntegersOf I) (flow : Flow) (list : List ℤ) where
  -- in whatever row of the program's width it is made
  abbrev pub StartsOwn : Type 0
  StartsOwn = (row left : List (Cell I)) → length row ≡ flow.width → start_row l n flow row ≡ Some left
      → is_own_row l n list flow.bases.items flow.width left ≡ true

  -- where static initializers have their places, the fit changes nothing
  abbrev pub FitsNoStart : Type 0
  FitsNoStart = has_start l n flow ≡ true
      → start_row l n flow (replicate flow.width Nothing) ≡ Some (start_of l n flow list)
