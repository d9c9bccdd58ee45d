-- Objects that are entered, left, cleared and spelled leave rows from a floor on.
use Rattle.std.specs.Prelude.{ℕ, ◌-◌, ◌&&◌, ℤ, pos, ◌-ℤ◌, ◌≤ℤ◌, nat_le, Bool, Option, Some, None, List, slice_get}
use Rattle.std.proofs.Common.{arith}
use Rattle.std.proofs.lemmas.Int.{ints}
use Rattle.std.proofs.lemmas.Bool.{cond_both}
use Rattle.cc_base.specs.Lattices.{LatticeOf}
use Rattle.cc_base.specs.IntegerDomains.{IntegersOf}
use Rattle.c_layout.specs.declared.leaf_lists.Leaf.{Leaf}
use Rattle.c_layout.specs.declared.shapes.BaseInfo.{BaseInfo}
use Rattle.pointer_domain.specs.declared.pointer_sets.Pointers.{Pointers}
use Rattle.pointer_domain.specs.declared.base_sets.Bases.{Bases}
use Rattle.value_domain.specs.declared.strings.first_zeros.FirstZero.{FirstZero}
use Rattle.value_domain.specs.declared.values.values.Value as values
use Rattle.value_domain.specs.declared.values.row_cells.Cell.{Cell}
use Rattle.value_domain.specs.declared.values.row_cells.Cell.TheVariants.{Value, First, State}
use Rattle.store_cells.specs.RowPositions.{capped, leaf_position, put_value, join_value, value_count}
use Rattle.store_objects.specs.ObjectLives.{set_cell, set_values, blank_object, at_base, forget, clear_leaf, clear_leaves, clear_object, clear, ended_cell, leave_object, leave}
use Rattle.store.specs.Spelling.{character, character_number, begins_at, is_one_place, is_spelled, number_of, hull_more, hull, one_character, characters, spell_cell, spell_leaf_at, spell_leaf, spell_leaves, spell_part, spell_zero, spell_object, spell}
use Rattle.store_objects.specs.Freeing.{free_base_if, free_base, free_bases, free}
use Rattle.row_bounds.specs.Stores.Floors.{least_number, IsFrom, IsValueFrom, KeepsFrom}
use Rattle.row_bounds.proofs.stores.Ranges.{FloorLaws, least_from, join_from, low_from}
use Rattle.row_bounds.proofs.stores.Values.{least_value_from, zero_value_from, ended_cell_from, number_from}
use Rattle.row_bounds.proofs.stores.Rows.{turns_keep, set_from, if_from, row_walk, row_turns, row_map, zeros_set, join_keeps}

character_low : (byte : ℕ) (signed : Bool) → least_number ≤ℤ character_number byte signed
character_low byte signed = cond_both (signed && nat_le 128 byte) (pos byte -ℤ pos 256) (pos byte) (λ z. least_number ≤ℤ z) (λ e. omega (arith, ints)) (λ e. omega (arith, ints))

module _ {I : Type 0} {l : LatticeOf I} {n : IntegersOf I} {stands : I → ℤ → Type 0} {floor : ℤ} (k : FloorLaws l n stands floor) where
  pub values_set : (base : BaseInfo) (v : values.Value I) → IsValueFrom n floor v → KeepsFrom n floor (set_values base v)
  unfolding set_values
  values_set base v h row j = row_turns n floor (set_cell base v) (λ at x q. set_from n floor x _ (Value v) h q) (value_count base) row j

  at_keeps : (change : BaseInfo → List (Cell I) → List (Cell I)) → ((base : BaseInfo) → KeepsFrom n floor (change base)) → (found : Option BaseInfo) → KeepsFrom n floor (at_base change found)
  at_keeps change h None row j = j
  at_keeps change h (Some base) row j = h base row j

  blank_kept : (base : BaseInfo) → KeepsFrom n floor (blank_object l n base)
  unfolding blank_object
  blank_kept base row j = zeros_set n floor base _ _ (values_set base _ (least_value_from k) row j)

  pub forget_keeps : (bases : List BaseInfo) (number : ℕ) → KeepsFrom n floor (forget l n bases number)
  unfolding forget
  forget_keeps bases number row j = at_keeps (blank_object l n) blank_kept (slice_get bases number) row j

  leaves_cleared : (base : BaseInfo) → KeepsFrom n floor (clear_leaves l n base)
  unfolding clear_leaves
  leaves_cleared base row j = row_walk n floor (clear_leaf l n base) (λ leaf at x q. set_from n floor x _ (Value _) (zero_value_from k leaf.class) q) 0 base.shape.cells row j

  object_cleared : (base : BaseInfo) → KeepsFrom n floor (clear_object l n base)
  unfolding clear_object
  object_cleared base row j = zeros_set n floor base _ _ (leaves_cleared base row j)

  pub clear_keeps : (bases : List BaseInfo) (number : ℕ) → KeepsFrom n floor (clear l n bases number)
  unfolding clear
  clear_keeps bases number row j = at_keeps (clear_object l n) object_cleared (slice_get bases number) row j

  object_left : (number : ℕ) (base : BaseInfo) → KeepsFrom n floor (leave_object l number base)
  unfolding leave_object
  object_left number base row j = zeros_set n floor base _ _ (values_set base _ (least_value_from k) _ (row_map n floor (ended_cell l number) (ended_cell_from k number) row j))

  pub leave_keeps : (bases : List BaseInfo) (number : ℕ) → KeepsFrom n floor (leave l bases number)
  unfolding leave
  leave_keeps bases number row j = at_keeps (leave_object l number) (object_left number) (slice_get bases number) row j

  -- ---- texts

  character_from : (byte : ℕ) (signed : Bool) → IsFrom floor (n.bounds (number_of n byte signed))
  character_from byte signed = low_from k (character_number byte signed) (character_low byte signed)

  more_from : (leaf : Leaf) (offset : ℕ) (text : List ℕ) (at : ℕ) (x : I) → IsFrom floor (n.bounds x) → IsFrom floor (n.bounds (hull_more l n leaf offset text at x))
  more_from leaf offset text at x h = cond_both (begins_at leaf (capped _)) (l.join x (number_of n (character text at) leaf.signed)) x (λ y. IsFrom floor (n.bounds y))
      (λ e. join_from k floor x (number_of n (character text at) leaf.signed) h (character_from (character text at) leaf.signed)) (λ e. h)

  hull_from : (leaf : Leaf) (offset count : ℕ) (text : List ℕ) → IsFrom floor (n.bounds (hull l n leaf offset count text))
  unfolding hull
  hull_from leaf offset count text = turns_keep (λ x. IsFrom floor (n.bounds x)) (hull_more l n leaf offset text) (more_from leaf offset text) count l.least (least_from k floor)

  one_from : (leaf : Leaf) (offset : ℕ) (text : List ℕ) → IsValueFrom n floor (one_character l n leaf offset text)
  unfolding one_character
  one_from leaf offset text = number_from k (number_of n (character text (leaf.offset - offset)) leaf.signed) (character_from (character text (leaf.offset - offset)) leaf.signed)

  several_from : (leaf : Leaf) (offset count : ℕ) (text : List ℕ) → IsValueFrom n floor (characters l n leaf offset count text)
  unfolding characters
  several_from leaf offset count text = number_from k (hull l n leaf offset count text) (hull_from leaf offset count text)

  cell_spelled : (at : ℕ) (leaf : Leaf) (offset count : ℕ) (text : List ℕ) → KeepsFrom n floor (λ row. spell_cell l n row at leaf offset count text)
  unfolding spell_cell
  cell_spelled at leaf offset count text row j = if_from n floor (is_one_place leaf) (put_value row at (one_character l n leaf offset text)) (join_value l n row at (characters l n leaf offset count text))
      (set_from n floor row at (Value (one_character l n leaf offset text)) (one_from leaf offset text) j) (join_keeps k at (characters l n leaf offset count text) (several_from leaf offset count text) row j)

  leaves_spelled : (base : BaseInfo) (offset count : ℕ) (text : List ℕ) → KeepsFrom n floor (spell_leaves l n base offset count text)
  unfolding spell_leaves spell_leaf_at
  leaves_spelled base offset count text row j = row_walk n floor (spell_leaf l n base offset count text) (λ leaf at x q. if_from n floor (is_spelled leaf offset count) _ x (cell_spelled (leaf_position base at) leaf offset count text x q) q) 0 base.shape.cells row j

  zero_spelled : (base : BaseInfo) (offset : ℕ) (z : FirstZero I) → KeepsFrom n floor (spell_zero base offset z)
  unfolding spell_zero
  zero_spelled base offset z row j = row_walk n floor (spell_part base offset z) (λ part at x q. if_from n floor _ _ x (set_from n floor x _ (First z) tt q) q) 0 base.shape.zeros row j

  object_spelled : (offset room : ℕ) (text : List ℕ) (base : BaseInfo) → KeepsFrom n floor (spell_object l n offset room text base)
  unfolding spell_object
  object_spelled offset room text base row j = zero_spelled base offset _ _ (leaves_spelled base offset _ text row j)

  pub spell_keeps : (bases : List BaseInfo) (number offset room : ℕ) (text : List ℕ) → KeepsFrom n floor (spell l n bases number offset room text)
  unfolding spell
  spell_keeps bases number offset room text row j = at_keeps (spell_object l n offset room text) (object_spelled offset room text) (slice_get bases number) row j

  -- ---- release

  pub free_bases_keep : (bases : List BaseInfo) (reached : Bases) (surely : Bool) → KeepsFrom n floor (free_bases l n bases reached surely)
  unfolding free_bases free_base_if
  free_bases_keep bases reached surely row j = row_walk n floor (free_base l n reached surely) (λ base number x q. if_from n floor _ _ x (set_from n floor x _ (State _) tt q) q) 0 bases row j

  pub free_keeps : (bases : List BaseInfo) (p : Pointers I) → KeepsFrom n floor (free l n bases p)
  unfolding free
  free_keeps bases p row j = free_bases_keep bases p.bases _ row j
