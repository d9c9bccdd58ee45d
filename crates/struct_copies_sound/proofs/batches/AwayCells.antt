-- The write of a leaf leaves each position that is that of no cell of a base.
use Rattle.std.proofs.Common.{◌≡◌, ℕ, zero, suc, ◌+◌, ◌<◌, Bool, true, false, cond, ◌&&◌, Some, List, arith, subst, refl, ◌∙◌}
use Rattle.std.specs.Prelude.{slice_get}
use Rattle.std.proofs.lemmas.Bool.{and_parts}
use Rattle.cc_base.specs.Lattices.{LatticeOf}
use Rattle.cc_base.specs.IntegerDomains.{IntegersOf}
use Rattle.c_layout.specs.declared.data_model.Model.{Model}
use Rattle.c_layout.specs.declared.leaf_lists.Class.TheVariants.{Char}
use Rattle.c_layout.specs.declared.leaf_lists.Leaf.{Leaf}
use Rattle.c_layout.specs.declared.shapes.BaseInfo.{BaseInfo}
use Rattle.pointer_domain.specs.declared.base_sets.Bases.{Bases}
use Rattle.value_domain.specs.Values.Values.{value_lattice}
use Rattle.value_domain.specs.declared.values.values.Value as values
use Rattle.value_domain.specs.declared.values.row_cells.Cell.{Cell}
use Rattle.value_domain.specs.declared.values.row_cells.Cell.TheVariants.{Value}
use Rattle.store_cells.specs.ByteWrites.{byte_written}
use Rattle.store_cells.specs.CellReads.{as_stored}
use Rattle.store_cells.specs.ClassNumbers.{class_number, class_at, same_class}
use Rattle.store_objects.specs.LiveBases.{has_base}
use Rattle.store_cells.specs.RowPositions.{leaf_position, class_position, cell_at, value_at, join_value, write_value}
use Rattle.store_cells.specs.Walks.{walk, turns}
use Rattle.store_sound.proofs.operations.Classes.{class_small}
use Rattle.store_sound.proofs.operations.Only.{only_put}
use Rattle.store_struct_leaves.specs.CopyPlaces.{is_reached, is_touched, span_has_stray}
use Rattle.store_struct_leaves.specs.LeafCopies.{reaches_class, is_strong, with_flag, write_leaf_at, write_own_leaf, write_class_cell, write_leaves, write_own, write_other_at, write_other_leaf, write_class_byte, write_class_bytes, write_bytes, write_other_leaves, write_others, write_others_if, write_base, write_base_if, write_to, write_all}
use Rattle.store_struct_leaves.specs.declared.leaf_copies.LeafAccess.{LeafAccess}
use Rattle.struct_copies_sound.proofs.cells.KeptValues.{each_keeps}

-- a position that is that of no leaf and of no class cell of a base
pub record IsBesideCells (base : BaseInfo) (pos : ℕ) : Type 0 where
  pub leaf : (j : ℕ) (leaf : Leaf) → slice_get base.shape.cells j ≡ Some leaf → leaf_position base j ≡ pos → ⊥
  pub class : (d : ℕ) → base.shape.heap ≡ true → d < 6 → class_position base d ≡ pos → ⊥

abbrev pub IsAway : List BaseInfo → ℕ → Type 0
IsAway bases pos = (b : ℕ) (base : BaseInfo) → slice_get bases b ≡ Some base → IsBesideCells base pos

module _ {I : Type 0} (l : LatticeOf I) (n : IntegersOf I) where
  pub put_beside : (row : List (Cell I)) (at pos : ℕ) (v : values.Value I) → (at ≡ pos → ⊥) → cell_at (join_value l n row at v) pos ≡ cell_at row pos
  unfolding join_value
  put_beside row at pos v other = (only_put at (at + 1) at (λ r. Value ((value_lattice l).join (value_at l n r at) v)) (omega arith) (omega arith)).keeps row pos (λ a b. other (omega (arith, a, b)))

  write_beside : (row : List (Cell I)) (at pos : ℕ) (v : values.Value I) (strong : Bool) → (at ≡ pos → ⊥) → cell_at (write_value l n row at v strong) pos ≡ cell_at row pos
  unfolding write_value
  write_beside row at pos v true other = (only_put at (at + 1) at (λ r. Value v) (omega arith) (omega arith)).keeps row pos (λ a b. other (omega (arith, a, b)))
  write_beside row at pos v false other = put_beside row at pos v other

  module _ (m : Model) (bases : List BaseInfo) (set : Bases) (access : LeafAccess) (v : values.Value I) (alone : Bool) (pos : ℕ) (x : Cell I) where
    abbrev Same : List (Cell I) → Type 0
    Same row = cell_at row pos ≡ x

    module _ (base : BaseInfo) (beside : IsBesideCells base pos) where
      own_leaf : (j : ℕ) (leaf : Leaf) → slice_get base.shape.cells j ≡ Some leaf → (row : List (Cell I)) → Same row → Same (write_own_leaf l n m base access v alone leaf j row)
      unfolding write_leaf_at
      own_leaf j leaf e row h = by_test (is_reached leaf access.class access.span)
        where
          by_test : (c : Bool) → Same (cond c (write_value l n row (leaf_position base j) (as_stored n m v access.class leaf.signed) (is_strong leaf access alone)) row)
          by_test true = write_beside row (leaf_position base j) pos (as_stored n m v access.class leaf.signed) (is_strong leaf access alone) (beside.leaf j leaf e) ∙ h
          by_test false = h

      class_cell : (row : List (Cell I)) → Same row → Same (write_class_cell l n m base access v row)
      unfolding write_class_cell reaches_class
      class_cell row h = by_test (base.shape.heap && span_has_stray base.shape.cells access.class access.span) refl
        where
          by_test : (c : Bool) → (base.shape.heap && span_has_stray base.shape.cells access.class access.span) ≡ c → Same (cond c (join_value l n row (class_position base (class_number access.class)) (as_stored n m v access.class true)) row)
          by_test true e = put_beside row (class_position base (class_number access.class)) pos (as_stored n m v access.class true) (beside.class (class_number access.class) (and_parts base.shape.heap (span_has_stray base.shape.cells access.class access.span) e).0 (class_small access.class)) ∙ h
          by_test false e = h

      other_leaf : (j : ℕ) (leaf : Leaf) → slice_get base.shape.cells j ≡ Some leaf → (row : List (Cell I)) → Same row → Same (write_other_leaf l n m base access v leaf j row)
      unfolding write_other_at
      other_leaf j leaf e row h = by_test (is_touched m leaf access.span)
        where
          by_test : (c : Bool) → Same (cond c (join_value l n row (leaf_position base j) (with_flag (byte_written l n m leaf.class leaf.signed v.labels) v.indeterminate)) row)
          by_test true = put_beside row (leaf_position base j) pos (with_flag (byte_written l n m leaf.class leaf.signed v.labels) v.indeterminate) (beside.leaf j leaf e) ∙ h
          by_test false = h

      bytes : base.shape.heap ≡ true → (count : ℕ) → count < 6 → (row : List (Cell I)) → Same row → Same (turns (write_class_byte l n m base v) count row)
      unfolding write_class_byte
      bytes heap zero small row h = h
      bytes heap (suc count) small row h = put_beside (turns (write_class_byte l n m base v) count row) (class_position base (count + 1)) pos (with_flag (byte_written l n m (class_at (count + 1)) true v.labels) v.indeterminate)
          (beside.class (count + 1) heap (omega (arith, small))) ∙ bytes heap count (omega (arith, small)) row h

      all_bytes : (row : List (Cell I)) → Same row → Same (write_bytes l n m base v row)
      unfolding write_bytes write_class_bytes
      all_bytes row h = by_test base.shape.heap refl
        where
          by_test : (c : Bool) → base.shape.heap ≡ c → Same (cond c (turns (write_class_byte l n m base v) 5 row) row)
          by_test true e = bytes e 5 (omega arith) row h
          by_test false e = h

      others : (row : List (Cell I)) → Same row → Same (write_others_if l n m base access v row)
      unfolding write_others write_other_leaves
      others row h = by_test (same_class access.class Char)
        where
          by_test : (c : Bool) → Same (cond c (walk (write_other_leaf l n m base access v) 0 base.shape.cells (write_bytes l n m base v row)) row)
          by_test true = each_keeps Same (write_other_leaf l n m base access v) 0 base.shape.cells
              (λ j a leaf e d r g. let same : j ≡ a = omega (arith, d) in subst (λ z. Same (write_other_leaf l n m base access v leaf z r)) same (other_leaf j leaf e r g)) (write_bytes l n m base v row) (all_bytes row h)
          by_test false = h

      pub base_beside : (row : List (Cell I)) → Same row → Same (write_base l n m base access v alone row)
      unfolding write_base write_own write_leaves
      base_beside row h = others _ (each_keeps Same (write_own_leaf l n m base access v alone) 0 base.shape.cells
          (λ j a leaf e d r g. let same : j ≡ a = omega (arith, d) in subst (λ z. Same (write_own_leaf l n m base access v alone leaf z r)) same (own_leaf j leaf e r g)) (write_class_cell l n m base access v row) (class_cell row h))

    pub all_beside : IsAway bases pos → (row : List (Cell I)) → Same row → Same (write_all l n m bases set access v alone row)
    unfolding write_all write_base_if
    all_beside away row h = each_keeps Same (write_to l n m set access v alone) 0 bases (λ j a base e d r g. by_test (has_base set a) base (away j base e) r g) row h
      where
        by_test : (c : Bool) (base : BaseInfo) → IsBesideCells base pos → (r : List (Cell I)) → Same r → Same (cond c (write_base l n m base access v alone r) r)
        by_test true base beside r g = base_beside base beside r g
        by_test false base beside r g = g
