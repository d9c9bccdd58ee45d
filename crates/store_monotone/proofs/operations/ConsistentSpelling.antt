-- Texts that are written into arrays leave consistent rows.
use Rattle.std.specs.Prelude.{◌≡◌, ℕ, ◌-◌, ◌<◌, ◌==◌, ℤ, Bool, true, false, cond, Option, Some, None, List, length, slice_get, refl}
use Rattle.std.proofs.Common.{arith}
use Rattle.cc_base.specs.Lattices.{LatticeOf, OrderLaws}
use Rattle.cc_base.specs.IntegerDomains.{IntegersOf, BoundLaws}
use Rattle.c_layout.specs.declared.leaf_lists.Leaf.{Leaf}
use Rattle.c_layout.specs.declared.shapes.BaseInfo.{BaseInfo}
use Rattle.pointer_domain.specs.declared.base_sets.Bases.{Bases}
use Rattle.value_domain.specs.declared.strings.first_zeros.FirstZero.{FirstZero}
use Rattle.value_domain.specs.declared.values.row_cells.Cell.{Cell}
use Rattle.value_domain.specs.declared.values.row_cells.Cell.TheVariants.{Value, First}
use Rattle.store_objects.specs.ObjectLives.{at_base}
use Rattle.store_cells.specs.RowPositions.{cell_at, leaf_position, zero_position, put_zero}
use Rattle.store.specs.Spelling.{written_count, character, is_one_place, is_spelled, number_of, hull, one_character, characters, spell_cell, spell_leaf_at, spell_leaf, spell_leaves, first_zero_of, spell_part, spell_zero, spell_object, spell}
use Rattle.store_monotone.specs.Operations.TopCells.{top_value}
use Rattle.store_monotone.specs.Operations.Placements.{EachFrom, IsPlaced}
use Rattle.store_monotone.specs.Operations.StoreLaws.{AreBytes}
use Rattle.store_monotone.specs.Operations.ConsistentRows.{AreConsistent}
use Rattle.store_monotone.proofs.operations.PairedSteps.{walk_pair, numbers_below, any_each}
use Rattle.store_monotone.proofs.operations.OwnValues.{each_get, number_top}
use Rattle.store_monotone.proofs.operations.Spelling.{character_top, hull_top}
use Rattle.store_monotone.proofs.operations.Consistent.{even_bare, set_keeps}
use Rattle.store_monotone.proofs.operations.ConsistentStores.{IsKept, either_kept, put_kept, joined_kept}

module _ {I : Type 0} {l : LatticeOf I} {n : IntegersOf I} {stands : I → ℤ → Type 0} (o : OrderLaws l) (b : BoundLaws l n stands) (all : Bases) (top : List (Cell I)) (offset : ℕ) (text : List ℕ) (h : AreBytes text) where
  cell_kept : (i : ℕ) → cell_at top i ≡ Value (top_value n all) → (leaf : Leaf) (count : ℕ) (row : List (Cell I)) → IsKept o b all top row → IsKept o b all top (spell_cell l n row i leaf offset count text)
  unfolding spell_cell one_character characters
  cell_kept i e leaf count row k = either_kept o b all top (is_one_place leaf) _ _
      (put_kept o b all top i e (one_character l n leaf offset text) (even_bare o b false false) (number_top o b all (number_of n (character text (leaf.offset - offset)) leaf.signed) (character_top o b text (leaf.offset - offset) leaf.signed h)) row k)
      (joined_kept o b all top i e (characters l n leaf offset count text) (even_bare o b false false) (number_top o b all (hull l n leaf offset count text) (hull_top o b leaf offset count text h)) row k)

  leaves_kept : (base : BaseInfo) → IsPlaced n all top base → (count : ℕ) (row : List (Cell I)) → IsKept o b all top row → IsKept o b all top (spell_leaves l n base offset count text row)
  unfolding spell_leaves spell_leaf_at
  leaves_kept base p count row k = walk_pair (λ leaf at. at < length base.shape.cells) (λ x y. IsKept o b all top x) (spell_leaf l n base offset count text) (spell_leaf l n base offset count text)
      (λ leaf at x y e j. either_kept o b all top (is_spelled leaf offset count) _ _ (cell_kept (leaf_position base at) (p.leaf at e) leaf count x j) j)
      0 base.shape.cells row row (numbers_below (length base.shape.cells) 0 base.shape.cells (omega arith)) k

  part_even : (t : Bool) (i : ℕ) (f : FirstZero I) (row : List (Cell I)) → AreConsistent n row → AreConsistent n (cond t (put_zero row i f) row)
  part_even true i f row k = set_keeps n row i (First f) k tt
  part_even false i f row k = k

  zeros_even : (base : BaseInfo) (f : FirstZero I) (row : List (Cell I)) → AreConsistent n row → AreConsistent n (spell_zero base offset f row)
  unfolding spell_zero
  zeros_even base f row k = walk_pair (λ part at. Unit {0}) (λ x y. AreConsistent n x) (spell_part base offset f) (spell_part base offset f)
      (λ part at x y e j. part_even (part.offset == offset) (zero_position base at) f x j) 0 base.shape.zeros row row (any_each 0 base.shape.zeros) k

  object_even : (base : BaseInfo) → IsPlaced n all top base → (room : ℕ) (row : List (Cell I)) → IsKept o b all top row → AreConsistent n (spell_object l n offset room text base row)
  unfolding spell_object
  object_even base p room row k = zeros_even base (first_zero_of n room text) (spell_leaves l n base offset (written_count room text) text row) (leaves_kept base p (written_count room text) row k).even

  pub spell_even : (bases : List BaseInfo) → EachFrom (λ base number. IsPlaced n all top base) 0 bases → (number room : ℕ) (row : List (Cell I)) → IsKept o b all top row → AreConsistent n (spell l n bases number offset room text row)
  unfolding spell
  spell_even bases each number room row k = by_found (slice_get bases number) refl
    where
      by_found : (found : Option BaseInfo) → slice_get bases number ≡ found → AreConsistent n (at_base (spell_object l n offset room text) found row)
      by_found None e = k.even
      by_found (Some base) e = object_even base (each_get (λ base number. IsPlaced n all top base) 0 number bases base each e) room row k
