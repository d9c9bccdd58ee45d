-- What the write of one leaf of a struct makes of a position: the cell of a leaf or of a class takes the value.
use Rattle.std.proofs.Common.{◌≡◌, ℕ, zero, suc, ◌+◌, ◌<◌, Bool, true, false, cond, Some, List, length, arith, subst, sym, ◌∙◌, inl, inr}
use Rattle.std.specs.Prelude.{slice_get, ℤ}
use Rattle.std.proofs.lemmas.Bool.{cases_eq}
use Rattle.cc_base.specs.Lattices.{LatticeOf, OrderLaws}
use Rattle.cc_base.specs.IntegerDomains.{IntegersOf, BoundLaws}
use Rattle.c_layout.specs.declared.data_model.Model.{Model}
use Rattle.c_layout.specs.declared.leaf_lists.Class.TheVariants.{Char}
use Rattle.c_layout.specs.declared.leaf_lists.Leaf.{Leaf}
use Rattle.c_layout.specs.declared.shapes.BaseInfo.{BaseInfo}
use Rattle.pointer_domain.specs.declared.base_sets.Bases.{Bases}
use Rattle.value_domain.specs.Values.Values.{value_lattice}
use Rattle.value_domain.specs.declared.values.values.Value as values
use Rattle.value_domain.specs.declared.values.row_cells.Cell.{Cell}
use Rattle.store_cells.specs.ByteWrites.{byte_written}
use Rattle.store_cells.specs.CellReads.{as_stored}
use Rattle.store_cells.specs.ClassNumbers.{class_number, class_at, same_class}
use Rattle.store_objects.specs.LiveBases.{has_base}
use Rattle.store_cells.specs.RowLengths.{join_value_keeps, write_value_keeps}
use Rattle.store_cells.specs.RowPositions.{leaf_position, class_position, join_value, write_value}
use Rattle.store_cells.specs.Walks.{walk, turns}
use Rattle.store_struct_leaves.specs.CopyPlaces.{is_reached, is_touched}
use Rattle.store_struct_leaves.specs.LeafCopies.{reaches_class, is_strong, with_flag, write_leaf_at, write_own_leaf, write_class_cell, write_leaves, write_own, write_other_at, write_other_leaf, write_class_byte, write_class_bytes, write_bytes, write_other_leaves, write_others, write_others_if, write_base, write_base_if, write_to, write_all}
use Rattle.store_struct_leaves.specs.declared.leaf_copies.LeafAccess.{LeafAccess}
use Rattle.struct_copies_sound.proofs.cells.KeptValues.{each_keeps, one_makes, Has, join_makes, write_makes}
use Rattle.struct_copies_sound.proofs.cells.LeafWritten.{BringsNear, IsHit, other_near, other_keeps, byte_keeps, others_keep, own_keeps, to_keeps}

-- what all turns but one keep, and what that one makes of what was there
turn_makes : {S : Type 0} (Before After : S → Type 0) (f : ℕ → S → S) (count i : ℕ) → i < count → ((at : ℕ) (s : S) → Before s → Before (f at s)) → ((at : ℕ) (s : S) → After s → After (f at s)) → ((s : S) → Before s → After (f i s)) → (s : S) → Before s → After (turns f count s)
turn_makes Before After f zero i few before after made s h = absurd (omega (arith, few))
turn_makes {S} Before After f (suc count) i few before after made s h = elim (cases_eq i count) [
  | inl e ↦ subst (λ z. After (f z (turns f count s))) e (made (turns f count s) (all count))
  | inr e ↦ after count (turns f count s) (turn_makes Before After f count i (omega (arith, few, e)) before after made s h)
]
  where
    all : (k : ℕ) → Before (turns f k s)
    all zero = h
    all (suc k) = before k (turns f k s) (all k)

-- ---- lengths

module _ {I : Type 0} (l : LatticeOf I) (n : IntegersOf I) (m : Model) (set : Bases) (access : LeafAccess) (v : values.Value I) (alone : Bool) (size : ℕ) where
  abbrev Sized : List (Cell I) → Type 0
  Sized row = length row ≡ size

  class_sized : (base : BaseInfo) (row : List (Cell I)) → Sized row → Sized (write_class_cell l n m base access v row)
  unfolding write_class_cell
  class_sized base row h = by_test (reaches_class base access)
    where
      by_test : (c : Bool) → Sized (cond c (join_value l n row (class_position base (class_number access.class)) (as_stored n m v access.class true)) row)
      by_test true = join_value_keeps l n row (class_position base (class_number access.class)) (as_stored n m v access.class true) ∙ h
      by_test false = h

  own_sized : (base : BaseInfo) (leaf : Leaf) (at : ℕ) (row : List (Cell I)) → Sized row → Sized (write_own_leaf l n m base access v alone leaf at row)
  unfolding write_leaf_at
  own_sized base leaf at row h = by_test (is_reached leaf access.class access.span)
    where
      by_test : (c : Bool) → Sized (cond c (write_value l n row (leaf_position base at) (as_stored n m v access.class leaf.signed) (is_strong leaf access alone)) row)
      by_test true = write_value_keeps l n row (leaf_position base at) (as_stored n m v access.class leaf.signed) (is_strong leaf access alone) ∙ h
      by_test false = h

  other_sized : (base : BaseInfo) (leaf : Leaf) (at : ℕ) (row : List (Cell I)) → Sized row → Sized (write_other_leaf l n m base access v leaf at row)
  unfolding write_other_at
  other_sized base leaf at row h = by_test (is_touched m leaf access.span)
    where
      by_test : (c : Bool) → Sized (cond c (join_value l n row (leaf_position base at) (with_flag (byte_written l n m leaf.class leaf.signed v.labels) v.indeterminate)) row)
      by_test true = join_value_keeps l n row (leaf_position base at) (with_flag (byte_written l n m leaf.class leaf.signed v.labels) v.indeterminate) ∙ h
      by_test false = h

  byte_sized : (base : BaseInfo) (at : ℕ) (row : List (Cell I)) → Sized row → Sized (write_class_byte l n m base v at row)
  unfolding write_class_byte
  byte_sized base at row h = join_value_keeps l n row (class_position base (at + 1)) (with_flag (byte_written l n m (class_at (at + 1)) true v.labels) v.indeterminate) ∙ h

  turns_sized : (base : BaseInfo) (count : ℕ) (row : List (Cell I)) → Sized row → Sized (turns (write_class_byte l n m base v) count row)
  turns_sized base zero row h = h
  turns_sized base (suc count) row h = byte_sized base count (turns (write_class_byte l n m base v) count row) (turns_sized base count row h)

  bytes_sized : (base : BaseInfo) (row : List (Cell I)) → Sized row → Sized (write_bytes l n m base v row)
  unfolding write_bytes write_class_bytes
  bytes_sized base row h = by_test base.shape.heap
    where
      by_test : (c : Bool) → Sized (cond c (turns (write_class_byte l n m base v) 5 row) row)
      by_test true = turns_sized base 5 row h
      by_test false = h

  others_sized : (base : BaseInfo) (row : List (Cell I)) → Sized row → Sized (write_others_if l n m base access v row)
  unfolding write_others write_other_leaves
  others_sized base row h = by_test (same_class access.class Char)
    where
      by_test : (c : Bool) → Sized (cond c (walk (write_other_leaf l n m base access v) 0 base.shape.cells (write_bytes l n m base v row)) row)
      by_test true = each_keeps Sized (write_other_leaf l n m base access v) 0 base.shape.cells (λ j a leaf e d r g. other_sized base leaf a r g) (write_bytes l n m base v row) (bytes_sized base row h)
      by_test false = h

  own_all_sized : (base : BaseInfo) (row : List (Cell I)) → Sized row → Sized (write_own l n m base access v alone row)
  unfolding write_own write_leaves
  own_all_sized base row h = each_keeps Sized (write_own_leaf l n m base access v alone) 0 base.shape.cells (λ j a leaf e d r g. own_sized base leaf a r g) (write_class_cell l n m base access v row) (class_sized base row h)

  base_sized : (base : BaseInfo) (row : List (Cell I)) → Sized row → Sized (write_base l n m base access v alone row)
  unfolding write_base
  base_sized base row h = others_sized base (write_own l n m base access v alone row) (own_all_sized base row h)

  to_sized : (base : BaseInfo) (number : ℕ) (row : List (Cell I)) → Sized row → Sized (write_to l n m set access v alone base number row)
  unfolding write_base_if
  to_sized base number row h = by_test (has_base set number)
    where
      by_test : (c : Bool) → Sized (cond c (write_base l n m base access v alone row) row)
      by_test true = base_sized base row h
      by_test false = h

-- ---- what is made

module _ {I : Type 0} {l : LatticeOf I} {n : IntegersOf I} {gamma : I → ℤ → Type 0} (o : OrderLaws l) (q : BoundLaws l n gamma) (m : Model) (bases : List BaseInfo) (set : Bases) (access : LeafAccess) (v : values.Value I) (alone : Bool) (brings : BringsNear l n m access v)
    {P : values.Value I → Type 0} (up : (x y : values.Value I) → (value_lattice l).leq x y ≡ true → P x → P y) (p size : ℕ) (there : p < size) (b : ℕ) (base : BaseInfo) (at : slice_get bases b ≡ Some base) (has : has_base set b ≡ true) where
  abbrev Good : List (Cell I) → Type 0
  Good = Has o q up p size there

  abbrev Long : List (Cell I) → Type 0
  Long = Sized l n m set access v alone size

  abbrev Hit : ℕ → ℕ → BaseInfo → Leaf → Type 0
  Hit = IsHit o q m bases set access v alone brings up p size there

  -- the base makes it, and no other base has a leaf at the position that is written in its place
  all_make : ((c j : ℕ) (other : BaseInfo) (leaf : Leaf) → Hit c j other leaf → c ≡ b) → ((row : List (Cell I)) → Long row → Good (write_base l n m base access v alone row)) → (row : List (Cell I)) → Long row → Good (write_all l n m bases set access v alone row)
  unfolding write_all write_base_if
  all_make only made row h = one_makes Long Good (write_to l n m set access v alone) 0 bases b base at
      (λ j a other e d r g. to_sized l n m set access v alone size other a r g)
      (λ j a other e d ne r g.
      let same : a ≡ j = omega (arith, d) in
      subst (λ z. Good (write_to l n m set access v alone other z r)) (sym same) (to_keeps o q m bases set access v alone brings up p size there j other r e (λ i leaf hit. ne (only j i other leaf hit)) g))
      (λ a d r g. let same : a ≡ b = omega (arith, d) in subst (λ z. Good (cond (has_base set z) (write_base l n m base access v alone r) r)) (sym same) (subst (λ z. Good (cond z (write_base l n m base access v alone r) r)) (sym has) (made r g)))
      row h

  -- ---- a leaf of the class

  own_leaf_makes : (j : ℕ) (leaf : Leaf) → slice_get base.shape.cells j ≡ Some leaf → leaf_position base j ≡ p → is_reached leaf access.class access.span ≡ true → P (as_stored n m v access.class leaf.signed) → (row : List (Cell I)) → Long row → Good (write_own_leaf l n m base access v alone leaf j row)
  unfolding write_leaf_at
  own_leaf_makes j leaf among here reached h row long =
      subst (λ c. Good (cond c (write_value l n row (leaf_position base j) (as_stored n m v access.class leaf.signed) (is_strong leaf access alone)) row)) (sym reached)
      (subst (λ z. Good (write_value l n row z (as_stored n m v access.class leaf.signed) (is_strong leaf access alone))) (sym here)
      (write_makes o q up p size there row (as_stored n m v access.class leaf.signed) (is_strong leaf access alone) (brings.own leaf.signed) h long))

  pub own_makes : (j : ℕ) (leaf : Leaf) → slice_get base.shape.cells j ≡ Some leaf → leaf_position base j ≡ p → ((c i : ℕ) (other : BaseInfo) (y : Leaf) → Hit c i other y → (c ≡ b) × (i ≡ j))
      → is_reached leaf access.class access.span ≡ true → P (as_stored n m v access.class leaf.signed) → (row : List (Cell I)) → Long row → Good (write_all l n m bases set access v alone row)
  unfolding write_base write_own write_leaves
  own_makes j leaf among here only reached h row long = all_make (λ c i other y hit. (only c i other y hit).0)
      (λ r g. others_keep o q m bases set access v alone brings up p size there base (walk (write_own_leaf l n m base access v alone) 0 base.shape.cells (write_class_cell l n m base access v r))
      (one_makes Long Good (write_own_leaf l n m base access v alone) 0 base.shape.cells j leaf among
      (λ i a y e d s t. own_sized l n m set access v alone size base y a s t)
      (λ i a y e d ne s t.
      let same : a ≡ i = omega (arith, d) in
      subst (λ z. Good (write_own_leaf l n m base access v alone y z s)) (sym same) (own_keeps o q m bases set access v alone brings up p size there b i base y s at e has (λ hit. ne (only b i base y hit).1) t))
      (λ a d s t. let same : a ≡ j = omega (arith, d) in subst (λ z. Good (write_own_leaf l n m base access v alone leaf z s)) (sym same) (own_leaf_makes j leaf among here reached h s t))
      (write_class_cell l n m base access v r) (class_sized l n m set access v alone size base r g)))
      row long

  -- ---- the cell of the class on the heap, and cells of other classes: none of them is written in its place

  module _ (none : (c j : ℕ) (other : BaseInfo) (leaf : Leaf) → Hit c j other leaf → ⊥) where
    leaves_keep : (row : List (Cell I)) → Good row → Good (write_leaves l n m base access v alone row)
    unfolding write_leaves
    leaves_keep row g = each_keeps Good (write_own_leaf l n m base access v alone) 0 base.shape.cells
        (λ i a y e d s t.
        let same : a ≡ i = omega (arith, d) in
        subst (λ z. Good (write_own_leaf l n m base access v alone y z s)) (sym same) (own_keeps o q m bases set access v alone brings up p size there b i base y s at e has (λ hit. none b i base y hit) t))
        row g

    pub class_makes : class_position base (class_number access.class) ≡ p → reaches_class base access ≡ true → P (as_stored n m v access.class true) → (row : List (Cell I)) → Long row → Good (write_all l n m bases set access v alone row)
    unfolding write_base write_own write_class_cell
    class_makes here reached h row long = all_make (λ c i other y hit. absurd (none c i other y hit))
        (λ r g. others_keep o q m bases set access v alone brings up p size there base (write_leaves l n m base access v alone (cond (reaches_class base access) (join_value l n r (class_position base (class_number access.class)) (as_stored n m v access.class true)) r))
        (leaves_keep _
        (subst (λ c. Good (cond c (join_value l n r (class_position base (class_number access.class)) (as_stored n m v access.class true)) r)) (sym reached)
        (subst (λ z. Good (join_value l n r z (as_stored n m v access.class true))) (sym here) (join_makes o q up p size there r (as_stored n m v access.class true) (brings.own true) h g)))))
        row long

    -- what the other cells take of a character
    others_make : same_class access.class Char ≡ true → ((row : List (Cell I)) → Long row → Good (write_others l n m base access v row)) → (row : List (Cell I)) → Long row → Good (write_all l n m bases set access v alone row)
    unfolding write_base
    others_make char made row long = all_make (λ c i other y hit. absurd (none c i other y hit))
        (λ r g. subst (λ c. Good (cond c (write_others l n m base access v (write_own l n m base access v alone r)) (write_own l n m base access v alone r))) (sym char) (made (write_own l n m base access v alone r) (own_all_sized l n m set access v alone size base r g)))
        row long

    pub other_makes : same_class access.class Char ≡ true → (j : ℕ) (leaf : Leaf) → slice_get base.shape.cells j ≡ Some leaf → leaf_position base j ≡ p → is_touched m leaf access.span ≡ true → P (with_flag (byte_written l n m leaf.class leaf.signed v.labels) v.indeterminate) → (row : List (Cell I)) → Long row → Good (write_all l n m bases set access v alone row)
    unfolding write_others write_other_leaves write_other_at
    other_makes char j leaf among here touched h = others_make char (λ r g. one_makes Long Good (write_other_leaf l n m base access v) 0 base.shape.cells j leaf among
        (λ i a y e d s t. other_sized l n m set access v alone size base y a s t)
        (λ i a y e d ne s t. other_keeps o q m bases set access v alone brings up p size there base y a s t)
        (λ a d s t.
        let same : a ≡ j = omega (arith, d) in
        subst (λ z. Good (cond (is_touched m leaf access.span) (join_value l n s (leaf_position base z) (with_flag (byte_written l n m leaf.class leaf.signed v.labels) v.indeterminate)) s)) (sym same)
        (subst (λ c. Good (cond c (join_value l n s (leaf_position base j) (with_flag (byte_written l n m leaf.class leaf.signed v.labels) v.indeterminate)) s)) (sym touched)
        (subst (λ z. Good (join_value l n s z (with_flag (byte_written l n m leaf.class leaf.signed v.labels) v.indeterminate))) (sym here)
        (join_makes o q up p size there s (with_flag (byte_written l n m leaf.class leaf.signed v.labels) v.indeterminate) (other_near o q m bases set access v alone brings up p size there leaf.class leaf.signed) h t))))
        (write_bytes l n m base v r) (bytes_sized l n m set access v alone size base r g))

    pub byte_makes : same_class access.class Char ≡ true → base.shape.heap ≡ true → (c : ℕ) → c < 5 → class_position base (c + 1) ≡ p → P (with_flag (byte_written l n m (class_at (c + 1)) true v.labels) v.indeterminate) → (row : List (Cell I)) → Long row → Good (write_all l n m bases set access v alone row)
    unfolding write_others write_other_leaves write_bytes write_class_bytes write_class_byte
    byte_makes char heap c few here h = others_make char (λ r g. each_keeps Good (write_other_leaf l n m base access v) 0 base.shape.cells (λ i a y e d s t. other_keeps o q m bases set access v alone brings up p size there base y a s t)
        (cond base.shape.heap (turns (write_class_byte l n m base v) 5 r) r)
        (subst (λ z. Good (cond z (turns (write_class_byte l n m base v) 5 r) r)) (sym heap)
        (turn_makes Long Good (write_class_byte l n m base v) 5 c few (λ a s t. byte_sized l n m set access v alone size base a s t) (λ a s t. byte_keeps o q m bases set access v alone brings up p size there base a s t)
        (λ s t. subst (λ z. Good (join_value l n s z (with_flag (byte_written l n m (class_at (c + 1)) true v.labels) v.indeterminate))) (sym here)
        (join_makes o q up p size there s (with_flag (byte_written l n m (class_at (c + 1)) true v.labels) v.indeterminate) (other_near o q m bases set access v alone brings up p size there (class_at (c + 1)) true) h t))
        r g)))
