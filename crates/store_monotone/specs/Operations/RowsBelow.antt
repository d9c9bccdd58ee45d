-- Two rows, of which the larger one is an own row: no cell of it is above the greatest one of its place.
use Rattle.std.specs.Prelude.{◌≡◌, true, Option, Some, None, List}
use Rattle.cc_base.specs.Lattices.{LatticeOf}
use Rattle.cc_base.specs.Rows.{row_leq}
use Rattle.value_domain.specs.declared.values.values.Value.{Value}
use Rattle.value_domain.specs.declared.values.row_cells.Cell.{Cell}
use Rattle.value_domain.specs.Values.Values.{value_lattice}
use Rattle.value_domain.specs.Values.Cells.{cell_lattice}

-- a row below a larger one, and that below the greatest
pub record RowsBelow {I : Type 0} (l : LatticeOf I) (top r s : List (Cell I)) : Type 0 where
  pub small : row_leq (cell_lattice l) r s ≡ true
  pub large : row_leq (cell_lattice l) s top ≡ true

module _ {I : Type 0} (l : LatticeOf I) where
  -- nothing that is read is below all
  abbrev pub ReadBelow : Option (Value I) → Option (Value I) → Type 0
  ReadBelow None y = Unit {0}
  ReadBelow (Some v) None = ⊥
  ReadBelow (Some v) (Some w) = (value_lattice l).leq v w ≡ true

  -- no row that is left is below all
  abbrev pub StoresBelow : List (Cell I) → Option (List (Cell I)) → Option (List (Cell I)) → Type 0
  StoresBelow top None y = Unit {0}
  StoresBelow top (Some x) None = ⊥
  StoresBelow top (Some x) (Some y) = RowsBelow l top x y
