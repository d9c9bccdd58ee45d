-- Texts that are written into arrays.
use Rattle.std.specs.Prelude.{◌≡◌, ℕ, zero, suc, ◌+◌, ◌-◌, ◌^◌, ◌<◌, ◌≤◌, ℤ, pos, negsuc, ◌-ℤ◌, Bool, true, ◌&&◌, ◌==◌, nat_le, nat_lt, List, [], ◌∷◌, length, get_or}
use Rattle.std.proofs.Common.{arith}
use Rattle.std.proofs.lemmas.Int.{ints}
use Rattle.std.proofs.lemmas.Bool.{cond_both, ltb-true}
use Rattle.cc_base.specs.Lattices.{LatticeOf, OrderLaws}
use Rattle.cc_base.specs.IntegerDomains.{IntegersOf, BoundLaws}
use Rattle.c_layout.specs.declared.leaf_lists.Leaf.{Leaf}
use Rattle.c_layout.specs.declared.shapes.BaseInfo.{BaseInfo}
use Rattle.pointer_domain.specs.declared.base_sets.Bases.{Bases}
use Rattle.value_domain.specs.Strings.FirstZeros.{the_end, zero_of}
use Rattle.value_domain.specs.declared.strings.first_zeros.FirstZero.{FirstZero}
use Rattle.value_domain.specs.declared.values.row_cells.Cell.{Cell}
use Rattle.value_domain.specs.declared.values.row_cells.Cell.TheVariants.{Value}
use Rattle.value_domain.specs.Values.Values.{value_order}
use Rattle.store_cells.specs.RowPositions.{capped, cell_at, leaf_position, zero_position}
use Rattle.store_cells.specs.FirstZeroWrites.{no_zero}
use Rattle.store.specs.Spelling.{written_count, character, begins_at, is_one_place, is_spelled, text_length, number_of, hull_more, hull, one_character, characters, spell_cell, spell_leaf_at, spell_leaf, spell_leaves, first_zero_of, spell_part, spell_zero, spell_object, spell}
use Rattle.store_monotone.specs.Operations.TopCells.{top_number, top_value, top_zero}
use Rattle.store_monotone.specs.Operations.Placements.{EachFrom, IsPlaced}
use Rattle.store_monotone.specs.Operations.RowsBelow.{RowsBelow}
use Rattle.store_monotone.specs.Operations.StoreLaws.{AreBytes}
use Rattle.store_monotone.proofs.operations.PairedSteps.{walk_pair, turns_pair, same_pair, numbers_below}
use Rattle.store_monotone.proofs.operations.CellSteps.{join_pair}
use Rattle.store_monotone.proofs.operations.OwnValues.{one_within, number_top, no_zero_top, value_put, zero_put}
use Rattle.store_monotone.proofs.operations.ObjectLives.{at_object}

byte_of : (text : List ℕ) (at : ℕ) → AreBytes text → get_or text at 0 < 256
byte_of [] at h = omega arith
byte_of (c ∷ cs) zero h = h.0
byte_of (c ∷ cs) (suc at) h = byte_of cs at h.1

module _ {I : Type 0} {l : LatticeOf I} {n : IntegersOf I} {stands : I → ℤ → Type 0} (o : OrderLaws l) (b : BoundLaws l n stands) where
  pub character_top : (text : List ℕ) (at : ℕ) (signed : Bool) → AreBytes text → l.leq (number_of n (character text at) signed) (top_number n) ≡ true
  character_top text at signed h =
      let c = byte_of text at h in
      cond_both (signed && nat_le 128 (character text at)) (pos (character text at) -ℤ pos 256) (pos (character text at)) (λ z. l.leq (n.one z) (top_number n) ≡ true)
      (λ e. one_within o b (pos (character text at) -ℤ pos 256) (negsuc (2 ^ 64 - 1)) (pos (2 ^ 64)) (omega (arith, ints)) (omega (arith, ints)))
      (λ e. one_within o b (pos (character text at)) (negsuc (2 ^ 64 - 1)) (pos (2 ^ 64)) (omega (arith, ints)) (omega (arith, ints)))

  hull_step : (leaf : Leaf) (offset : ℕ) (text : List ℕ) (at : ℕ) (found : I) → AreBytes text → l.leq found (top_number n) ≡ true → l.leq (hull_more l n leaf offset text at found) (top_number n) ≡ true
  hull_step leaf offset text at found h k = cond_both (begins_at leaf (capped (offset + at))) (l.join found (number_of n (character text at) leaf.signed)) found (λ x. l.leq x (top_number n) ≡ true)
      (λ e. o.join_least found (number_of n (character text at) leaf.signed) (top_number n) k (character_top text at leaf.signed h)) (λ e. k)

  pub hull_top : (leaf : Leaf) (offset count : ℕ) (text : List ℕ) → AreBytes text → l.leq (hull l n leaf offset count text) (top_number n) ≡ true
  unfolding hull
  hull_top leaf offset count text h = turns_pair (λ x y. l.leq x (top_number n) ≡ true) (hull_more l n leaf offset text) (hull_more l n leaf offset text) count
      (λ at x y e k. hull_step leaf offset text at x h k) count l.least l.least (omega arith) (o.least_below (top_number n))

  text_zero_top : (room : ℕ) (text : List ℕ) → room ≤ 2 ^ 64 → l.leq (first_zero_of n room text).at (top_zero n).at ≡ true
  text_zero_top room text h = cond_both (nat_lt (text_length text) room) (zero_of (n.one (pos (text_length text)))) (no_zero n) (λ f. l.leq f.at (top_zero n).at ≡ true)
      (λ e. let k = ltb-true (text_length text) room e in one_within o b (pos (text_length text)) (pos 0) the_end (omega (arith, ints)) (omega (arith, ints))) (λ e. no_zero_top o b)

  module _ (all : Bases) (top : List (Cell I)) (offset : ℕ) (text : List ℕ) (h : AreBytes text) where
    cell_pair : (i : ℕ) → cell_at top i ≡ Value (top_value n all) → (leaf : Leaf) (count : ℕ) (r s : List (Cell I)) → RowsBelow l top r s → RowsBelow l top (spell_cell l n r i leaf offset count text) (spell_cell l n s i leaf offset count text)
    unfolding spell_cell one_character characters
    cell_pair i e leaf count r s j =
        let one = one_character l n leaf offset text in
        let many = characters l n leaf offset count text in
        same_pair (RowsBelow l top) (is_one_place leaf) _ _ _ _
        (λ t. value_put o b all top i r s one one e j ((value_order o).reflexive one) (number_top o b all (number_of n (character text (leaf.offset - offset)) leaf.signed) (character_top text (leaf.offset - offset) leaf.signed h)))
        (λ t. join_pair o b all top i e r s many many j ((value_order o).reflexive many) (number_top o b all (hull l n leaf offset count text) (hull_top leaf offset count text h)))

    module _ (base : BaseInfo) (p : IsPlaced n all top base) where
      leaves_pair : (count : ℕ) (r s : List (Cell I)) → RowsBelow l top r s → RowsBelow l top (spell_leaves l n base offset count text r) (spell_leaves l n base offset count text s)
      unfolding spell_leaves spell_leaf_at
      leaves_pair count r s j = walk_pair (λ leaf at. at < length base.shape.cells) (RowsBelow l top) (spell_leaf l n base offset count text) (spell_leaf l n base offset count text)
          (λ leaf at x y e i. same_pair (RowsBelow l top) (is_spelled leaf offset count) _ _ _ _ (λ t. cell_pair (leaf_position base at) (p.leaf at e) leaf count x y i) (λ t. i))
          0 base.shape.cells r s (numbers_below (length base.shape.cells) 0 base.shape.cells (omega arith)) j

      zeros_pair : (f : FirstZero I) → l.leq f.at (top_zero n).at ≡ true → (r s : List (Cell I)) → RowsBelow l top r s → RowsBelow l top (spell_zero base offset f r) (spell_zero base offset f s)
      unfolding spell_zero
      zeros_pair f k r s j = walk_pair (λ part at. at < length base.shape.zeros) (RowsBelow l top) (spell_part base offset f) (spell_part base offset f)
          (λ part at x y e i. same_pair (RowsBelow l top) (part.offset == offset) _ _ _ _ (λ t. zero_put o b all top (zero_position base at) x y f f (p.zero at e) i (o.reflexive f.at) k) (λ t. i))
          0 base.shape.zeros r s (numbers_below (length base.shape.zeros) 0 base.shape.zeros (omega arith)) j

      object_pair : (room : ℕ) → room ≤ 2 ^ 64 → (r s : List (Cell I)) → RowsBelow l top r s → RowsBelow l top (spell_object l n offset room text base r) (spell_object l n offset room text base s)
      unfolding spell_object
      object_pair room k r s j = zeros_pair (first_zero_of n room text) (text_zero_top room text k) (spell_leaves l n base offset (written_count room text) text r) (spell_leaves l n base offset (written_count room text) text s)
          (leaves_pair (written_count room text) r s j)

    pub spell_monotone : (bases : List BaseInfo) → EachFrom (λ base number. IsPlaced n all top base) 0 bases → (number room : ℕ) → room ≤ 2 ^ 64 → (r s : List (Cell I)) → RowsBelow l top r s → RowsBelow l top (spell l n bases number offset room text r) (spell l n bases number offset room text s)
    unfolding spell
    spell_monotone bases each number room k r s j = at_object o b all top bases each number r s j (spell_object l n offset room text) (spell_object l n offset room text) (λ base p. object_pair base p room k r s j)
