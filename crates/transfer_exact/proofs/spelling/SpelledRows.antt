-- What a text that is spelled makes of the cells of an object whose leaves are of one place each.
use Rattle.std.proofs.Common.{◌≡◌, ℕ, ◌+◌, ◌≤◌, Bool, true, false, cond, Some, List, length, arith, refl, ap, ◌∙◌}
use Rattle.std.specs.Prelude.{slice_get}
use Rattle.std.proofs.lemmas.Bool.{eq-eqb}
use Rattle.std.proofs.lemmas.Option.{slice_get_within}
use Rattle.cc_base.specs.Lattices.{LatticeOf}
use Rattle.cc_base.specs.IntegerDomains.{IntegersOf}
use Rattle.c_layout.specs.declared.leaf_lists.Leaf.{Leaf}
use Rattle.c_layout.specs.declared.shapes.BaseInfo.{BaseInfo}
use Rattle.cfg.specs.WellFormed.{base_values}
use Rattle.cfg.specs.declared.programs.Flow.{Flow}
use Rattle.value_domain.specs.declared.values.values.Value as values
use Rattle.value_domain.specs.declared.values.row_cells.Cell.{Cell}
use Rattle.value_domain.specs.declared.values.row_cells.Cell.TheVariants.{Value}
use Rattle.store_cells.specs.NearValues.{near_value}
use Rattle.store_cells.specs.RowPositions.{leaf_position, value_in, value_at}
use Rattle.store.specs.Spelling.{written_count, is_one_place, is_spelled, one_character, spell_cell, spell_leaf_at, spell_leaf, spell_leaves, first_zero_of, spell_zero, spell_object}
use Rattle.store_cells.specs.Walks.{walk}
use Rattle.store_sound.proofs.operations.Only.{cell_put}
use Rattle.store_sound.proofs.operations.StoreRows.{Fits, leaf_is}
use Rattle.store_sound.proofs.operations.StoreValues.{same_value}
use Rattle.store_sound.proofs.regions.Layers.{leaf_turn, value_turn}
use Rattle.store_sound.proofs.regions.SpelledParts.{leaf_only, zeros_only}

module _ {I : Type 0} (l : LatticeOf I) (n : IntegersOf I) (flow : Flow) (base : BaseInfo) (fits : Fits base) (offset room : ℕ) (text : List ℕ) where
  abbrev count : ℕ
  count = written_count room text

  module _ (row : List (Cell I)) (long : base.first + base_values base ≤ length row) (j : ℕ) (leaf : Leaf) (among : slice_get base.shape.cells j ≡ Some leaf) (one : leaf.count ≡ 1) where
    turn_is : (r : List (Cell I)) → length r ≡ length row → (before : values.Value I) → value_at l n r (leaf_position base j) ≡ before → (spelled : Bool) → is_spelled leaf offset count ≡ spelled → value_at l n (spell_leaf l n base offset count text leaf j r) (leaf_position base j) ≡ cond spelled (near_value l n (one_character l n leaf offset text)) before
    unfolding spell_leaf_at spell_cell value_at
    turn_is r same before e true f =
        let here = leaf_is base j fits (slice_get_within base.shape.cells j leaf among) in
        let top = slice_get_within base.shape.cells j leaf among in
        let g : is_one_place leaf ≡ true = eq-eqb leaf.count 1 one in
        rw (f, g) (ap (λ c. near_value l n (value_in l c)) (cell_put r (leaf_position base j) (Value (one_character l n leaf offset text)) (omega (arith, here, top, same, long))))
    turn_is r same before e false f = rw f e

    pub spelled_value : (spelled : Bool) → is_spelled leaf offset count ≡ spelled → value_at l n (spell_object l n offset room text base row) (leaf_position base j) ≡ cond spelled (near_value l n (one_character l n leaf offset text)) (value_at l n row (leaf_position base j))
    unfolding spell_object spell_leaves
    spelled_value spelled f =
        let top = slice_get_within base.shape.cells j leaf among in
        let here = leaf_is base j fits top in
        let rest : List (Cell I) = walk (spell_leaf l n base offset count text) 0 base.shape.cells row in
        same_value l n rest (spell_zero base offset (first_zero_of n room text) rest) (leaf_position base j) ((zeros_only l n flow base fits offset room text).keeps rest (leaf_position base j) (λ g h. omega (arith, g, here, top)))
        ∙ value_turn l n (λ v. v ≡ value_at l n row (leaf_position base j)) (λ v. v ≡ cond spelled (near_value l n (one_character l n leaf offset text)) (value_at l n row (leaf_position base j))) (leaf_position base j) (spell_leaf l n base offset count text leaf j) row rest
        (leaf_turn base fits (spell_leaf l n base offset count text) (leaf_only l n flow base fits offset room text) j leaf among row)
        (λ r same e. turn_is r same (value_at l n row (leaf_position base j)) e spelled f) refl
