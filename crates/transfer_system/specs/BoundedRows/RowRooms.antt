-- How often the rows of a program can still grow.
use Rattle.std.specs.Prelude.{ℕ, zero, suc, ◌+◌, ◌-◌, ℤ, Bool, true, ◌&&◌, List, [], ◌∷◌}
use Rattle.cc_base.specs.Lattices.{LatticeOf}
use Rattle.value_domain.specs.Strings.FirstZeros.{zero_lattice}
use Rattle.value_domain.specs.declared.values.row_cells.Cell.{Cell}
use Rattle.value_domain.specs.declared.values.row_cells.Cell.TheVariants.{Nothing, Value, First, State, Mixed}
use Rattle.value_domain.specs.Values.Values.{value_lattice}
use Rattle.value_domain.specs.Values.AllocStates.{state_lattice}
use Rattle.value_domain.specs.Values.Cells.{cell_within}
use Rattle.transfer_system.specs.declared.bounded_rows.cell_kinds.CellKind.{CellKind}
use Rattle.transfer_system.specs.declared.bounded_rows.cell_kinds.CellKind.TheVariants as kind
use Rattle.transfer_system.specs.BoundedRows.CellKinds.{first_kind, kinds_behind}

module _ {I : Type 0} (l : LatticeOf I) where
  abbrev pub cells_within : List ℤ → List (Cell I) → Bool
  cells_within list [] = true
  cells_within list (cell ∷ cells) = cell_within l list cell && cells_within list cells

  -- how often a cell of a kind can still grow, where sets of bases never get the spare ones
  abbrev pub value_room : List ℤ → ℕ → Cell I → ℕ
  value_room list spare Nothing = 0
  value_room list spare (Value v) = (value_lattice l).rank list v - spare
  value_room list spare (First f) = 0
  value_room list spare (State s) = 0
  value_room list spare Mixed = 0

  abbrev pub first_room : List ℤ → Cell I → ℕ
  first_room list Nothing = 0
  first_room list (Value v) = 0
  first_room list (First f) = (zero_lattice l).rank list f
  first_room list (State s) = 0
  first_room list Mixed = 0

  abbrev pub state_room : List ℤ → Cell I → ℕ
  state_room list Nothing = 0
  state_room list (Value v) = 0
  state_room list (First f) = 0
  state_room list (State s) = (state_lattice l).rank list s
  state_room list Mixed = 0

  abbrev pub cell_room : List ℤ → ℕ → CellKind → Cell I → ℕ
  cell_room list spare kind.Value cell = value_room list spare cell
  cell_room list spare kind.First cell = first_room list cell
  cell_room list spare kind.State cell = state_room list cell

  -- how often the first n cells of a row can still grow
  abbrev pub row_room : List ℤ → ℕ → List CellKind → ℕ → List (Cell I) → ℕ
  row_room list spare kinds zero row = 0
  row_room list spare kinds (suc n) [] = 0
  row_room list spare kinds (suc n) (cell ∷ cells) = cell_room list spare (first_kind kinds) cell + row_room list spare (kinds_behind kinds) n cells

  -- how often a cell of a kind can grow, with so many numbers in the list
  abbrev pub kind_height : ℕ → ℕ → CellKind → ℕ
  kind_height t spare kind.Value = (value_lattice l).height t - spare
  kind_height t spare kind.First = (zero_lattice l).height t
  kind_height t spare kind.State = (state_lattice l).height t

  -- how often n cells of these kinds can grow
  abbrev pub row_height : ℕ → ℕ → List CellKind → ℕ → ℕ
  row_height t spare kinds zero = 0
  row_height t spare kinds (suc n) = kind_height t spare (first_kind kinds) + row_height t spare (kinds_behind kinds) n
