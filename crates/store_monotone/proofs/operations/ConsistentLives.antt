-- Objects that are freed, forgotten, cleared and left leave consistent rows.
use Rattle.std.specs.Prelude.{ℕ, ℤ, pos, Bool, true, false, cond, not, ◌&&◌, Option, Some, None, List, [], ◌∷◌, length, map, slice_get}
use Rattle.std.proofs.Common.{arith}
use Rattle.cc_base.specs.Lattices.{LatticeOf, OrderLaws}
use Rattle.cc_base.specs.IntegerDomains.{IntegersOf, BoundLaws}
use Rattle.c_layout.specs.declared.leaf_lists.Class.{Class}
use Rattle.c_layout.specs.declared.shapes.BaseInfo.{BaseInfo}
use Rattle.pointer_domain.specs.declared.pointer_sets.Pointers.{Pointers}
use Rattle.value_domain.specs.declared.strings.first_zeros.FirstZero.{FirstZero}
use Rattle.value_domain.specs.declared.values.values.Value as values
use Rattle.value_domain.specs.declared.values.row_cells.Cell.{Cell}
use Rattle.value_domain.specs.declared.values.row_cells.Cell.TheVariants.{Nothing, Value, First, State, Mixed}
use Rattle.value_domain.specs.Values.Values.{value_lattice}
use Rattle.value_domain.specs.Strings.FirstZeros.{zero_lattice}
use Rattle.value_domain.specs.Values.ValueTables.{blank_value, number_value, pointer_value}
use Rattle.value_domain.specs.Values.LabelSets.{no_labels}
use Rattle.store_cells.specs.ClassNumbers.{is_pointer}
use Rattle.store_objects.specs.LiveBases.{is_one_instance}
use Rattle.store_cells.specs.ByteWrites.{null_pointer}
use Rattle.store_cells.specs.RowPositions.{leaf_position, zero_position, state_position, state_at, value_count}
use Rattle.store_cells.specs.FirstZeroWrites.{no_zero, zero_first, set_part, set_zeros}
use Rattle.store_objects.specs.Freeing.{is_heap_in, freed_state, free_base_if, free_base, free_bases, free}
use Rattle.store_objects.specs.ObjectLives.{set_cell, set_values, blank_object, at_base, forget, zero_value, clear_leaf, clear_leaves, clear_object, clear, ended_cell, leave_object, leave}
use Rattle.store_monotone.specs.Operations.ConsistentRows.{IsConsistentCell, AreConsistent}
use Rattle.store_monotone.proofs.operations.PairedSteps.{walk_pair, turns_pair, any_each}
use Rattle.store_monotone.proofs.operations.Consistent.{IsEven, even_bare, set_keeps}
use Rattle.store_monotone.proofs.operations.ConsistentPointers.{ended_pointer_even}

module _ {I : Type 0} {l : LatticeOf I} {n : IntegersOf I} {stands : I → ℤ → Type 0} (o : OrderLaws l) (b : BoundLaws l n stands) where
  pub freed_at : (wanted surely : Bool) (base : BaseInfo) (row : List (Cell I)) → AreConsistent n row → AreConsistent n (free_base_if l n wanted surely base row)
  unfolding free_base_if
  freed_at true surely base row h = set_keeps n row (state_position base) (State (freed_state surely (state_at l n row (state_position base)))) h tt
  freed_at false surely base row h = h

  pub free_even : (bases : List BaseInfo) (p : Pointers I) (row : List (Cell I)) → AreConsistent n row → AreConsistent n (free l n bases p row)
  unfolding free free_bases
  free_even bases p row h =
      let surely = is_one_instance bases p.bases && not p.null in
      walk_pair (λ base number. Unit {0}) (λ x y. AreConsistent n x) (free_base l n p.bases surely) (free_base l n p.bases surely)
      (λ base number x y e j. freed_at (is_heap_in p.bases base number) surely base x j) 0 bases row row (any_each 0 bases) h

  pub zeros_even : (base : BaseInfo) (f : FirstZero I) (row : List (Cell I)) → AreConsistent n row → AreConsistent n (set_zeros base f row)
  unfolding set_zeros
  zeros_even base f row h = turns_pair (λ x y. AreConsistent n x) (set_part base f) (set_part base f) (length base.shape.zeros)
      (λ at x y e j. set_keeps n x (zero_position base at) (First f) j tt) (length base.shape.zeros) row row (omega arith) h

  pub values_even : (base : BaseInfo) (v : values.Value I) → IsEven n v.pointer → (row : List (Cell I)) → AreConsistent n row → AreConsistent n (set_values base v row)
  unfolding set_values
  values_even base v k row h = turns_pair (λ x y. AreConsistent n x) (set_cell base v) (set_cell base v) (value_count base)
      (λ at x y e j. set_keeps n x (leaf_position base at) (Value v) j k) (value_count base) row row (omega arith) h

  pub zero_even : (class : Class) → IsEven n (zero_value l n class).pointer
  zero_even class = by_class (is_pointer class)
    where
      by_class : (q : Bool) → IsEven n (cond q (pointer_value l (null_pointer l)) (number_value l (n.one (pos 0)) no_labels)).pointer
      by_class true = even_bare o b true false
      by_class false = even_bare o b false false

  blank_even : (base : BaseInfo) (row : List (Cell I)) → AreConsistent n row → AreConsistent n (blank_object l n base row)
  unfolding blank_object
  blank_even base row h = zeros_even base (no_zero n) (set_values base (blank_value l) row) (values_even base (blank_value l) (even_bare o b false false) row h)

  cleared_even : (base : BaseInfo) (row : List (Cell I)) → AreConsistent n row → AreConsistent n (clear_object l n base row)
  unfolding clear_object clear_leaves
  cleared_even base row h = zeros_even base (zero_first n) (clear_leaves l n base row)
      (walk_pair (λ leaf at. Unit {0}) (λ x y. AreConsistent n x) (clear_leaf l n base) (clear_leaf l n base)
      (λ leaf at x y e j. set_keeps n x (leaf_position base at) (Value (zero_value l n leaf.class)) j (zero_even leaf.class)) 0 base.shape.cells row row (any_each 0 base.shape.cells) h)

  -- ---- left

  cell_even : (number : ℕ) (c : Cell I) → IsConsistentCell n c → IsConsistentCell n (ended_cell l number c)
  cell_even number Nothing h = tt
  cell_even number (Value v) h = ended_pointer_even o b number v.pointer h
  cell_even number (First f) h = tt
  cell_even number (State s) h = tt
  cell_even number Mixed h = tt

  row_even : (number : ℕ) (row : List (Cell I)) → AreConsistent n row → AreConsistent n (map (ended_cell l number) row)
  row_even number [] h = tt
  row_even number (c ∷ cs) h = (cell_even number c h.0, row_even number cs h.1)

  left_even : (number : ℕ) (base : BaseInfo) (row : List (Cell I)) → AreConsistent n row → AreConsistent n (leave_object l number base row)
  unfolding leave_object
  left_even number base row h = zeros_even base ((zero_lattice l).least) (set_values base ((value_lattice l).least) (map (ended_cell l number) row))
      (values_even base ((value_lattice l).least) (even_bare o b false false) (map (ended_cell l number) row) (row_even number row h))

  -- ---- the object of a number

  at_even : (change : BaseInfo → List (Cell I) → List (Cell I)) → ((base : BaseInfo) (row : List (Cell I)) → AreConsistent n row → AreConsistent n (change base row)) → (found : Option BaseInfo) (row : List (Cell I)) → AreConsistent n row → AreConsistent n (at_base change found row)
  at_even change f None row h = h
  at_even change f (Some base) row h = f base row h

  pub forget_even : (bases : List BaseInfo) (number : ℕ) (row : List (Cell I)) → AreConsistent n row → AreConsistent n (forget l n bases number row)
  unfolding forget
  forget_even bases number row h = at_even (blank_object l n) blank_even (slice_get bases number) row h

  pub clear_even : (bases : List BaseInfo) (number : ℕ) (row : List (Cell I)) → AreConsistent n row → AreConsistent n (clear l n bases number row)
  unfolding clear
  clear_even bases number row h = at_even (clear_object l n) cleared_even (slice_get bases number) row h

  pub leave_even : (bases : List BaseInfo) (number : ℕ) (row : List (Cell I)) → AreConsistent n row → AreConsistent n (leave l bases number row)
  unfolding leave
  leave_even bases number row h = at_even (leave_object l number) (left_even number) (slice_get bases number) row h
