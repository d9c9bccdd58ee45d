-- A load of a character is stood for.
use Rattle.std.proofs.Common.{◌≡◌, ℕ, ◌+◌, ◌<◌, ◌≤◌, Bool, true, false, ◌&&◌, Option, Some, None, List, arith, subst, sym, refl, inl, inr, ◌⊎◌, ◌-◌}
use Rattle.std.specs.Prelude.{slice_get}
use Rattle.cc_base.specs.Lattices.{LatticeOf, OrderLaws}
use Rattle.cc_base.specs.IntegerDomains.{IntegersOf}
use Rattle.c_layout.specs.declared.data_model.Model.{Model}
use Rattle.c_layout.specs.declared.leaf_lists.Class.TheVariants.{Char}
use Rattle.c_layout.specs.declared.leaf_lists.Leaf.{Leaf}
use Rattle.c_layout.specs.declared.shapes.BaseInfo.{BaseInfo}
use Rattle.value_domain.specs.Values.LabelSets.{all_labels}
use Rattle.value_domain.specs.Values.Values.{value_lattice}
use Rattle.value_domain.specs.declared.values.values.Value.{Value}
use Rattle.value_domain.specs.declared.values.row_cells.Cell.{Cell}
use Rattle.store_cells.specs.declared.cell_reads.Access.{Access}
use Rattle.store_cells.specs.AccessWindows.{window_between}
use Rattle.store_cells.specs.CellReads.{whole_range, byte_read}
use Rattle.store_cells.specs.ClassNumbers.{same_class, class_at}
use Rattle.memory_model.specs.Memory.ScalarSizes.{class_bytes}
use Rattle.store_cells.specs.RowPositions.{leaf_position, class_position, value_at}
use Rattle.store.specs.Loads.{load as abstract_load, load_bases, load_within, load_own, loaded, labels_of, read_other_leaf, load_other_leaves, read_class_cell, load_other_class_cells, load_padding, load_other_bytes, load_others, load_base, determinate_if, is_text}
use Rattle.store.specs.Loads as loads
use Rattle.store_sound.specs.Concretization.Places.{OwnedByLeaf}
use Rattle.store_sound.specs.Operations.Gives.{Gives}
use Rattle.store_sound.proofs.operations.Selected.{place_selected}
-- ---- the instance at hand

use Rattle.store_cells.specs.ScalarTypes.{kind_of}
use Rattle.store.specs.LeafSelection.{is_other, meets_padding}
use Rattle.store_sound.proofs.operations.Walks.{walk_meets, turns_meet}
use Rattle.store_sound.proofs.operations.Found.{given_left, given_by_right, if_keeps, if_gives}

-- ---- the cells of other classes

module _ {I : Type 0} {l : LatticeOf I} (o : OrderLaws l) (n : IntegersOf I) {P : Value I → Type 0} (up : (x y : Value I) → (value_lattice l).leq x y ≡ true → P x → P y) (m : Model) (row : List (Cell I)) (access : Access) (offset : ℕ) (from : access.window.lo ≤ offset) (to : offset ≤ access.window.hi) (base : BaseInfo) where
  overlapped : (leaf : Leaf) (k : ℕ) → 0 < leaf.stride → OwnedByLeaf m leaf offset k → same_class leaf.class Char ≡ false → is_other m leaf access.window ≡ true
  overlapped leaf k s w e =
      let t = w.there in
      let sm = w.small in
      rw e (place_selected leaf (window_between (access.window.lo - (class_bytes m leaf.class - 1)) access.window.hi) w.start w.place s (omega arith) (omega arith))

  pub others_give : (j : ℕ) (leaf : Leaf) (k : ℕ) → slice_get base.shape.cells j ≡ Some leaf → 0 < leaf.stride → OwnedByLeaf m leaf offset k → same_class leaf.class Char ≡ false → P (byte_read l n m (value_at l n row (leaf_position base j)) leaf.class access.signed) → Gives P (load_other_leaves l n m base row access)
  unfolding load_other_leaves
  others_give j leaf k e s w d h = walk_meets (Gives P) (read_other_leaf l n m base row access)
      (λ leaf at found g. if_keeps o up _ found _ g)
      0 base.shape.cells None j j leaf e (omega arith)
      (λ found. if_gives o up _ found _ (overlapped leaf k s w d) h)

  pub class_cells_give : (j : ℕ) → j < 5 → P (byte_read l n m (value_at l n row (class_position base (j + 1))) (class_at (j + 1)) access.signed) → Gives P (load_other_class_cells l n m base row access)
  unfolding load_other_class_cells
  class_cells_give j s h = turns_meet (Gives P) (read_class_cell l n m base row access)
      (λ at found g. given_left o up _ _ g) 5 None j s
      (λ found. given_by_right o up _ _ (record { value = _; is = refl; good = h }))

  pub by_leaves : Gives P (load_other_leaves l n m base row access) → Gives P (load_others l n m base row access)
  unfolding load_others
  by_leaves g = given_left o up _ _ g

  pub by_classes : base.shape.heap ≡ true → Gives P (load_other_class_cells l n m base row access) → Gives P (load_others l n m base row access)
  unfolding load_others load_other_bytes load_other_class_cells
  by_classes h g = given_by_right o up (load_other_leaves l n m base row access) (load_other_bytes l n m base row access) (rw h g)

  pub by_padding : base.shape.heap ≡ false → meets_padding m base.shape.cells access.window base.size ≡ true → P (whole_range l n (kind_of m Char access.signed) all_labels true) → Gives P (load_others l n m base row access)
  unfolding load_others load_other_bytes load_padding
  by_padding h e g = given_by_right o up (load_other_leaves l n m base row access) (load_other_bytes l n m base row access) (rw (h, e) (record { value = _; is = refl; good = g }))

  and_true : (b : Bool) → (b && true) ≡ b
  and_true true = refl
  and_true false = refl

  determinate : (text : Bool) (x : Option (Value I)) → (text ≡ true → (v : Value I) → P v → P (record v { indeterminate = v.indeterminate && false })) → Gives P x → Gives P (determinate_if text x)
  determinate text None f g = let e = g.is in cc
  determinate false (Some v) f g = record { value = record v { indeterminate = v.indeterminate && true }; is = refl; good = let e = and_true v.indeterminate in subst (λ b. P (record v { indeterminate = b })) (sym e) (subst P (cc g.is) g.good) }
  determinate true (Some v) f g = record { value = record v { indeterminate = v.indeterminate && false }; is = refl; good = f refl v (subst P (cc g.is) g.good) }

  pub char_base : same_class access.class Char ≡ true → (is_text l n base row access.window ≡ true → (v : Value I) → P v → P (record v { indeterminate = v.indeterminate && false })) → Gives P (load_own l n m base row access) ⊎ Gives P (load_others l n m base row access) → Gives P (load_base l n m base row access)
  unfolding load_base loads.load_character
  char_base e f (inl g) = rw e (determinate (is_text l n base row access.window) _ f (given_left o up _ _ g))
  char_base e f (inr g) = rw e (determinate (is_text l n base row access.window) _ f (given_by_right o up _ _ g))
