-- Larger rows alone do not stand for more: a cell of mixed kinds is above each value, and is read as the least value. So that
-- rows are carried along edges is to be asked of rows whose cells are of the kinds of their positions.
use Rattle.std.proofs.Common.{◌≡◌, true, refl}
use Rattle.cc_base.specs.Lattices.{LatticeOf}
use Rattle.value_domain.specs.Values.Cells.{cell_leq}
use Rattle.value_domain.specs.Values.Values.{value_lattice}
use Rattle.value_domain.specs.declared.values.values.Value as values
use Rattle.value_domain.specs.declared.values.row_cells.Cell.TheVariants.{Value, Mixed}
use Rattle.store_cells.specs.RowPositions.{value_in}

module _ {I : Type 0} (l : LatticeOf I) where
  mixed_is_above : (v : values.Value I) → cell_leq l (Value v) Mixed ≡ true
  mixed_is_above v = refl

  mixed_is_read_as_least : value_in l Mixed ≡ (value_lattice l).least
  mixed_is_read_as_least = refl
