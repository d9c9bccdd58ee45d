-- The life of objects: entered, left, made indeterminate and cleared.
use Rattle.std.specs.Prelude.{◌≡◌, ℕ, Bool, true, false, pos, cond, nat_lt, ◌&&◌, Option, Some, None, List, map, slice_get, refl}
use Rattle.std.proofs.Common.{ap}
use Rattle.cc_base.specs.Lattices.{LatticeOf}
use Rattle.cc_base.specs.IntegerDomains.{IntegersOf}
use Rattle.c_layout.specs.declared.leaf_lists.Class.{Class}
use Rattle.c_layout.specs.declared.leaf_lists.Leaf.{Leaf}
use Rattle.c_layout.specs.declared.shapes.BaseInfo.{BaseInfo}
use Rattle.pointer_domain.specs.declared.pointer_sets.Pointers.{Pointers}
use Rattle.pointer_domain.specs.BaseSets.{bases_has}
use Rattle.pointer_domain.specs.PointerTables.{ended_at, if_any_base}
use Rattle.value_domain.specs.Strings.FirstZeros.{zero_lattice}
use Rattle.value_domain.specs.declared.values.values.Value as values
use Rattle.value_domain.specs.declared.values.row_cells.Cell.{Cell}
use Rattle.value_domain.specs.declared.values.row_cells.Cell.TheVariants.{Nothing, Value, First, State, Mixed}
use Rattle.value_domain.specs.Values.LabelSets.{no_labels}
use Rattle.value_domain.specs.Values.Values.{value_lattice}
use Rattle.value_domain.specs.Values.ValueTables.{blank_value, number_value, pointer_value}
use Rattle.store_cells.specs.Walks.{walk, turns}
use Rattle.store_cells.specs.RowPositions.{leaf_position, value_count, put_value}
use Rattle.store_cells.specs.ClassNumbers.{is_pointer}
use Rattle.store_cells.specs.ByteWrites.{null_pointer}
use Rattle.store_cells.specs.FirstZeroWrites.{set_zeros, no_zero, zero_first}
use Rattle.store_objects.specs.LiveBases.{most_bases, has_base}

module _ {I : Type 0} where
  abbrev pub set_cell : BaseInfo → values.Value I → ℕ → List (Cell I) → List (Cell I)
  set_cell base v at row = put_value row (leaf_position base at) v

  -- each cell of the base, class cells too, has this value
  unfoldable pub set_values : BaseInfo → values.Value I → List (Cell I) → List (Cell I)
  set_values base v row = turns (set_cell base v) (value_count base) row

  -- all bytes are indeterminate
  unfoldable pub blank_object : LatticeOf I → IntegersOf I → BaseInfo → List (Cell I) → List (Cell I)
  blank_object l n base row = set_zeros base (no_zero n) (set_values base (blank_value l) row)

  -- the row with one base changed, if there is a base of the number
  abbrev pub at_base : (BaseInfo → List (Cell I) → List (Cell I)) → Option BaseInfo → List (Cell I) → List (Cell I)
  at_base change None row = row
  at_base change (Some base) row = change base row

  unfoldable pub forget : LatticeOf I → IntegersOf I → List BaseInfo → ℕ → List (Cell I) → List (Cell I)
  forget l n bases number row = at_base (blank_object l n) (slice_get bases number) row

  -- a cell of a class where all its bytes are 0: 0 or null, without labels
  abbrev pub zero_value : LatticeOf I → IntegersOf I → Class → values.Value I
  zero_value l n class = cond (is_pointer class) (pointer_value l (null_pointer l)) (number_value l (n.one (pos 0)) no_labels)

  abbrev pub clear_leaf : LatticeOf I → IntegersOf I → BaseInfo → Leaf → ℕ → List (Cell I) → List (Cell I)
  clear_leaf l n base leaf at row = put_value row (leaf_position base at) (zero_value l n leaf.class)

  unfoldable pub clear_leaves : LatticeOf I → IntegersOf I → BaseInfo → List (Cell I) → List (Cell I)
  clear_leaves l n base row = walk (clear_leaf l n base) 0 base.shape.cells row

  -- all bytes are 0
  unfoldable pub clear_object : LatticeOf I → IntegersOf I → BaseInfo → List (Cell I) → List (Cell I)
  clear_object l n base row = set_zeros base (zero_first n) (clear_leaves l n base row)

  unfoldable pub clear : LatticeOf I → IntegersOf I → List BaseInfo → ℕ → List (Cell I) → List (Cell I)
  clear l n bases number row = at_base (clear_object l n) (slice_get bases number) row

  -- the pointers into a base have ended
  abbrev pub ended_pointer : LatticeOf I → ℕ → Pointers I → Pointers I
  ended_pointer l number p = cond (nat_lt number most_bases) (ended_at l p number) p

  abbrev pub ended_cell : LatticeOf I → ℕ → Cell I → Cell I
  ended_cell l number Nothing = Nothing
  ended_cell l number (Value v) = Value (record v { pointer = ended_pointer l number v.pointer })
  ended_cell l number (First f) = First f
  ended_cell l number (State s) = State s
  ended_cell l number Mixed = Mixed

  -- whether the pointers of a cell may point into a base
  abbrev pub holds_base : ℕ → Cell I → Bool
  holds_base number Nothing = false
  holds_base number (Value v) = has_base v.pointer.bases number
  holds_base number (First f) = false
  holds_base number (State s) = false
  holds_base number Mixed = false

  elsewhere : (p q : Pointers I) (a b : Bool) → (a && b) ≡ false → cond a (cond b q p) p ≡ p
  elsewhere p q false b is = refl
  elsewhere p q true false is = refl
  elsewhere p q true true is = cc

  -- a cell with no pointer into the base stays as it is
  pub ended_elsewhere : (l : LatticeOf I) (number : ℕ) (c : Cell I) → holds_base number c ≡ false → ended_cell l number c ≡ c
  ended_elsewhere l number Nothing is = refl
  ended_elsewhere l number (Value v) is = ap (λ p. Value (record v { pointer = p })) (elsewhere v.pointer _ (nat_lt number most_bases) (bases_has v.pointer.bases number) is)
  ended_elsewhere l number (First f) is = refl
  ended_elsewhere l number (State s) is = refl
  ended_elsewhere l number Mixed is = refl

  -- nothing is in the cells of the base, and the pointers into it have ended
  unfoldable pub leave_object : LatticeOf I → ℕ → BaseInfo → List (Cell I) → List (Cell I)
  leave_object l number base row = set_zeros base ((zero_lattice l).least) (set_values base ((value_lattice l).least) (map (ended_cell l number) row))

  unfoldable pub leave : LatticeOf I → List BaseInfo → ℕ → List (Cell I) → List (Cell I)
  leave l bases number row = at_base (leave_object l number) (slice_get bases number) row
