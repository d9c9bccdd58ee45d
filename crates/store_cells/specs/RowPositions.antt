-- Where a row keeps what belongs to a base, and what stands there.
use Rattle.std.specs.Prelude.{ℕ, ◌+◌, ◌-◌, ◌^◌, min, Bool, cond, List, length, set, slice_get}
use Rattle.std.specs.Option.{unwrap_or}
use Rattle.cc_base.specs.Lattices.{LatticeOf}
use Rattle.cc_base.specs.IntegerDomains.{IntegersOf}
use Rattle.c_layout.specs.declared.shapes.BaseInfo.{BaseInfo}
use Rattle.value_domain.specs.declared.strings.first_zeros.FirstZero.{FirstZero}
use Rattle.value_domain.specs.Strings.FirstZeros.{zero_lattice}
use Rattle.value_domain.specs.declared.values.values.Value as values
use Rattle.value_domain.specs.declared.values.alloc_states.AllocState.{AllocState}
use Rattle.value_domain.specs.declared.values.row_cells.Cell.{Cell}
use Rattle.value_domain.specs.declared.values.row_cells.Cell.TheVariants.{Nothing, Value, First, State, Mixed}
use Rattle.value_domain.specs.Values.Values.{value_lattice}
use Rattle.value_domain.specs.Values.AllocStates.{state_lattice}
use Rattle.store_cells.specs.NearValues.{near_number, near_value}

-- ---- positions

-- the greatest number of a count, which stands for each greater one
abbrev pub capped : ℕ → ℕ
capped n = min n (2 ^ 64 - 1)

abbrev pub leaf_position : BaseInfo → ℕ → ℕ
leaf_position base leaf = capped (base.first + leaf)

abbrev pub class_position : BaseInfo → ℕ → ℕ
class_position base class = capped (leaf_position base (length base.shape.cells) + class)

-- how many class cells a base has
abbrev pub class_count : BaseInfo → ℕ
class_count base = cond base.shape.heap 6 0

abbrev pub zero_position : BaseInfo → ℕ → ℕ
zero_position base part = capped (class_position base (class_count base) + part)

abbrev pub state_position : BaseInfo → ℕ
state_position base = zero_position base (length base.shape.zeros)

abbrev pub value_count : BaseInfo → ℕ
value_count base = capped (length base.shape.cells + class_count base)

module _ {I : Type 0} where
  -- ---- what a cell is, the least where it is of another kind

  abbrev pub value_in : LatticeOf I → Cell I → values.Value I
  value_in l Nothing = (value_lattice l).least
  value_in l (Value v) = v
  value_in l (First f) = (value_lattice l).least
  value_in l (State s) = (value_lattice l).least
  value_in l Mixed = (value_lattice l).least

  abbrev pub zero_in : LatticeOf I → Cell I → FirstZero I
  zero_in l Nothing = (zero_lattice l).least
  zero_in l (Value v) = (zero_lattice l).least
  zero_in l (First f) = f
  zero_in l (State s) = (zero_lattice l).least
  zero_in l Mixed = (zero_lattice l).least

  abbrev pub state_in : LatticeOf I → Cell I → AllocState I
  state_in l Nothing = (state_lattice l).least
  state_in l (Value v) = (state_lattice l).least
  state_in l (First f) = (state_lattice l).least
  state_in l (State s) = s
  state_in l Mixed = (state_lattice l).least

  -- the cell at a position, the least one behind the row
  abbrev pub cell_at : List (Cell I) → ℕ → Cell I
  cell_at row at = unwrap_or (slice_get row at) Nothing

  abbrev pub near_state : LatticeOf I → IntegersOf I → AllocState I → AllocState I
  near_state l n s = record s { size = near_number l n s.size }

  -- ---- what stands at a position, with near bounds

  unfoldable pub value_at : LatticeOf I → IntegersOf I → List (Cell I) → ℕ → values.Value I
  value_at l n row at = near_value l n (value_in l (cell_at row at))

  unfoldable pub zero_at : LatticeOf I → IntegersOf I → List (Cell I) → ℕ → FirstZero I
  zero_at l n row at = record { at = near_number l n (zero_in l (cell_at row at)).at }

  unfoldable pub state_at : LatticeOf I → IntegersOf I → List (Cell I) → ℕ → AllocState I
  state_at l n row at = near_state l n (state_in l (cell_at row at))

  -- ---- the row with a cell at a position

  abbrev pub put_value : List (Cell I) → ℕ → values.Value I → List (Cell I)
  put_value row at v = set row at (Value v)

  abbrev pub put_zero : List (Cell I) → ℕ → FirstZero I → List (Cell I)
  put_zero row at f = set row at (First f)

  abbrev pub put_state : List (Cell I) → ℕ → AllocState I → List (Cell I)
  put_state row at s = set row at (State s)

  -- joined into what stands there
  unfoldable pub join_value : LatticeOf I → IntegersOf I → List (Cell I) → ℕ → values.Value I → List (Cell I)
  join_value l n row at v = put_value row at ((value_lattice l).join (value_at l n row at) v)

  unfoldable pub join_zero : LatticeOf I → IntegersOf I → List (Cell I) → ℕ → FirstZero I → List (Cell I)
  join_zero l n row at f = put_zero row at ((zero_lattice l).join (zero_at l n row at) f)

  -- in its place, or joined into it
  unfoldable pub write_value : LatticeOf I → IntegersOf I → List (Cell I) → ℕ → values.Value I → Bool → List (Cell I)
  write_value l n row at v strong = cond strong (put_value row at v) (join_value l n row at v)
