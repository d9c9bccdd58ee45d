-- Where each part of an object is written as a text is spelled into it.
use Rattle.std.proofs.Common.{ℕ, ◌+◌, List, length, arith}
use Rattle.cc_base.specs.Lattices.{LatticeOf}
use Rattle.cc_base.specs.IntegerDomains.{IntegersOf}
use Rattle.c_layout.specs.declared.leaf_lists.Leaf.{Leaf}
use Rattle.c_layout.specs.declared.shapes.BaseInfo.{BaseInfo}
use Rattle.c_layout.specs.declared.shapes.ZeroPart.{ZeroPart}
use Rattle.cfg.specs.WellFormed.{base_values, base_cells}
use Rattle.cfg.specs.declared.programs.Flow.{Flow}
use Rattle.value_domain.specs.declared.values.row_cells.Cell.TheVariants.{Value, First}
use Rattle.store_cells.specs.RowPositions.{leaf_position, zero_position}
use Rattle.store.specs.Spelling.{written_count, is_one_place, is_spelled, one_character, characters, spell_cell, spell_leaf_at, spell_leaf, spell_leaves, first_zero_of, spell_part, spell_zero, spell_object}
use Rattle.store_sound.proofs.operations.Only.{Only, only_same, only_put, only_cond}
use Rattle.store_sound.proofs.operations.StoreRows.{Fits, join_only}
use Rattle.store_sound.specs.Regions.RegionWrites.{WritesWithin}
use Rattle.store_sound.proofs.regions.Layers.{leaves_within, zeros_within, layers_within}

module _ {I : Type 0} (l : LatticeOf I) (n : IntegersOf I) (flow : Flow) (base : BaseInfo) (fits : Fits base) (offset room : ℕ) (text : List ℕ) where
  abbrev count : ℕ
  count = written_count room text

  pub leaf_only : (j : ℕ) (leaf : Leaf) → Only (leaf_position base j) (leaf_position base j + 1) (spell_leaf l n base offset count text leaf j)
  unfolding spell_leaf_at spell_cell
  leaf_only j leaf =
      let p : ℕ = leaf_position base j in
      only_cond p (p + 1) (is_spelled leaf offset count) _ (λ row. row)
      (only_cond p (p + 1) (is_one_place leaf) _ _ (only_put p (p + 1) p (λ row. Value (one_character l n leaf offset text)) (omega arith) (omega arith)) (join_only l n flow.model p (characters l n leaf offset count text)))
      (only_same p (p + 1))

  pub leaves_only : Only base.first (base.first + length base.shape.cells) (spell_leaves l n base offset count text)
  unfolding spell_leaves
  leaves_only = leaves_within base fits (spell_leaf l n base offset count text) leaf_only

  pub zero_only : (z : ℕ) (part : ZeroPart) → Only (zero_position base z) (zero_position base z + 1) (spell_part base offset (first_zero_of n room text) part z)
  zero_only z part =
      let p : ℕ = zero_position base z in
      only_cond p (p + 1) _ _ (λ row. row) (only_put p (p + 1) p (λ row. First (first_zero_of n room text)) (omega arith) (omega arith)) (only_same p (p + 1))

  pub zeros_only : Only (base.first + base_cells base) ((base.first + base_cells base) + length base.shape.zeros) (spell_zero base offset (first_zero_of n room text))
  unfolding spell_zero
  zeros_only = zeros_within base fits (spell_part base offset (first_zero_of n room text)) zero_only

  pub spelled_within : WritesWithin base.first (base.first + base_values base) (spell_object l n offset room text base)
  unfolding spell_object
  spelled_within = layers_within base (spell_leaves l n base offset count text) (λ row. row) (spell_zero base offset (first_zero_of n room text)) leaves_only (only_same _ _) zeros_only
