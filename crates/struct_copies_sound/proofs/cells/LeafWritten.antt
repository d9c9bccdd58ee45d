-- What the write of one leaf of a struct keeps of a position, and what it makes of it.
use Rattle.std.proofs.Common.{◌≡◌, ℕ, ◌+◌, ◌<◌, Bool, true, false, cond, Some, List, length, arith, subst, sym, refl}
use Rattle.std.specs.Prelude.{slice_get, ℤ}
use Rattle.cc_base.specs.Lattices.{LatticeOf, OrderLaws}
use Rattle.cc_base.specs.IntegerDomains.{IntegersOf, BoundLaws}
use Rattle.c_layout.specs.declared.data_model.Model.{Model}
use Rattle.c_layout.specs.declared.leaf_lists.Class.{Class}
use Rattle.c_layout.specs.declared.leaf_lists.Class.TheVariants.{Char}
use Rattle.c_layout.specs.declared.leaf_lists.Leaf.{Leaf}
use Rattle.c_layout.specs.declared.shapes.BaseInfo.{BaseInfo}
use Rattle.pointer_domain.specs.declared.base_sets.Bases.{Bases}
use Rattle.value_domain.specs.Values.Values.{value_lattice}
use Rattle.value_domain.specs.declared.values.values.Value as values
use Rattle.value_domain.specs.declared.values.row_cells.Cell.{Cell}
use Rattle.store_cells.specs.ByteWrites.{byte_written}
use Rattle.store_cells.specs.CellReads.{as_stored}
use Rattle.store_cells.specs.ClassNumbers.{class_number, class_at, same_class}
use Rattle.store_objects.specs.LiveBases.{has_base}
use Rattle.store_cells.specs.RowPositions.{leaf_position, class_position, join_value, write_value}
use Rattle.store_cells.specs.Walks.{walk, turns}
use Rattle.store_sound.proofs.operations.Near.{IsNearValue}
use Rattle.store_sound.proofs.operations.Walks.{turns_keep}
use Rattle.store_sound.proofs.chars.ByteValues.{written_near}
use Rattle.store_struct_leaves.specs.CopyPlaces.{is_reached, is_touched}
use Rattle.store_struct_leaves.specs.LeafCopies.{reaches_class, is_strong, with_flag, write_leaf_at, write_own_leaf, write_class_cell, write_leaves, write_own, write_other_at, write_other_leaf, write_class_byte, write_class_bytes, write_bytes, write_other_leaves, write_others, write_others_if, write_base, write_base_if, write_to, write_all}
use Rattle.store_struct_leaves.specs.declared.leaf_copies.LeafAccess.{LeafAccess}
use Rattle.struct_copies_sound.proofs.cells.KeptValues.{each_keeps, Has, join_keeps, write_keeps}

-- each value that the write brings to a cell is near
pub record BringsNear {I : Type 0} (l : LatticeOf I) (n : IntegersOf I) (m : Model) (access : LeafAccess) (v : values.Value I) : Type 0 where
  pub own : (signed : Bool) → IsNearValue l n (as_stored n m v access.class signed)

module _ {I : Type 0} {l : LatticeOf I} {n : IntegersOf I} {gamma : I → ℤ → Type 0} (o : OrderLaws l) (q : BoundLaws l n gamma) (m : Model) (bases : List BaseInfo) (set : Bases) (access : LeafAccess) (v : values.Value I) (alone : Bool) (brings : BringsNear l n m access v)
    {P : values.Value I → Type 0} (up : (x y : values.Value I) → (value_lattice l).leq x y ≡ true → P x → P y) (p size : ℕ) (there : p < size) where
  abbrev pub Good : List (Cell I) → Type 0
  Good = Has o q up p size there

  abbrev pub Long : List (Cell I) → Type 0
  Long row = length row ≡ size

  -- a leaf at the position is written in its place
  pub record IsHit (b j : ℕ) (base : BaseInfo) (leaf : Leaf) : Type 0 where
    pub at : slice_get bases b ≡ Some base
    pub among : slice_get base.shape.cells j ≡ Some leaf
    pub in_set : has_base set b ≡ true
    pub reached : is_reached leaf access.class access.span ≡ true
    pub strong : is_strong leaf access alone ≡ true
    pub here : leaf_position base j ≡ p

  pub other_near : (class : Class) (signed : Bool) → IsNearValue l n (with_flag (byte_written l n m class signed v.labels) v.indeterminate)
  other_near class signed = let w = written_near o q m class signed v.labels in record { num = w.num; lo = w.lo; rel = w.rel; len = w.len }

  -- ---- what is kept

  pub class_keeps : (base : BaseInfo) (row : List (Cell I)) → Good row → Good (write_class_cell l n m base access v row)
  unfolding write_class_cell
  class_keeps base row h = by_test (reaches_class base access)
    where
      by_test : (c : Bool) → Good (cond c (join_value l n row (class_position base (class_number access.class)) (as_stored n m v access.class true)) row)
      by_test true = join_keeps o q up p size there row (class_position base (class_number access.class)) (as_stored n m v access.class true) (brings.own true) h
      by_test false = h

  pub other_keeps : (base : BaseInfo) (leaf : Leaf) (at : ℕ) (row : List (Cell I)) → Good row → Good (write_other_leaf l n m base access v leaf at row)
  unfolding write_other_at
  other_keeps base leaf at row h = by_test (is_touched m leaf access.span)
    where
      by_test : (c : Bool) → Good (cond c (join_value l n row (leaf_position base at) (with_flag (byte_written l n m leaf.class leaf.signed v.labels) v.indeterminate)) row)
      by_test true = join_keeps o q up p size there row (leaf_position base at) (with_flag (byte_written l n m leaf.class leaf.signed v.labels) v.indeterminate) (other_near leaf.class leaf.signed) h
      by_test false = h

  pub byte_keeps : (base : BaseInfo) (at : ℕ) (row : List (Cell I)) → Good row → Good (write_class_byte l n m base v at row)
  unfolding write_class_byte
  byte_keeps base at row h = join_keeps o q up p size there row (class_position base (at + 1)) (with_flag (byte_written l n m (class_at (at + 1)) true v.labels) v.indeterminate) (other_near (class_at (at + 1)) true) h

  pub bytes_keep : (base : BaseInfo) (row : List (Cell I)) → Good row → Good (write_bytes l n m base v row)
  unfolding write_bytes write_class_bytes
  bytes_keep base row h = by_test base.shape.heap
    where
      by_test : (c : Bool) → Good (cond c (turns (write_class_byte l n m base v) 5 row) row)
      by_test true = turns_keep Good (write_class_byte l n m base v) (λ at r g. byte_keeps base at r g) 5 row h
      by_test false = h

  pub others_keep : (base : BaseInfo) (row : List (Cell I)) → Good row → Good (write_others_if l n m base access v row)
  unfolding write_others write_other_leaves
  others_keep base row h = by_test (same_class access.class Char)
    where
      by_test : (c : Bool) → Good (cond c (walk (write_other_leaf l n m base access v) 0 base.shape.cells (write_bytes l n m base v row)) row)
      by_test true = each_keeps Good (write_other_leaf l n m base access v) 0 base.shape.cells (λ j a leaf e d r g. other_keeps base leaf a r g) (write_bytes l n m base v row) (bytes_keep base row h)
      by_test false = h

  pub own_keeps : (b j : ℕ) (base : BaseInfo) (leaf : Leaf) (row : List (Cell I)) → slice_get bases b ≡ Some base → slice_get base.shape.cells j ≡ Some leaf → has_base set b ≡ true → (IsHit b j base leaf → ⊥) → Good row → Good (write_own_leaf l n m base access v alone leaf j row)
  unfolding write_leaf_at
  own_keeps b j base leaf row at among has none h = by_test (is_reached leaf access.class access.span) refl
    where
      by_test : (c : Bool) → is_reached leaf access.class access.span ≡ c → Good (cond c (write_value l n row (leaf_position base j) (as_stored n m v access.class leaf.signed) (is_strong leaf access alone)) row)
      by_test true e = write_keeps o q up p size there row (leaf_position base j) (as_stored n m v access.class leaf.signed) (is_strong leaf access alone) (brings.own leaf.signed)
          (λ s w. none (record { at = at; among = among; in_set = has; reached = e; strong = s; here = w })) h
      by_test false e = h

  base_keeps : (b : ℕ) (base : BaseInfo) (row : List (Cell I)) → slice_get bases b ≡ Some base → has_base set b ≡ true → ((j : ℕ) (leaf : Leaf) → IsHit b j base leaf → ⊥) → Good row → Good (write_base l n m base access v alone row)
  unfolding write_base write_own write_leaves
  base_keeps b base row at has none h = others_keep base (walk (write_own_leaf l n m base access v alone) 0 base.shape.cells (write_class_cell l n m base access v row))
      (each_keeps Good (write_own_leaf l n m base access v alone) 0 base.shape.cells
      (λ j a leaf e d r g. let same : a ≡ j = omega (arith, d) in subst (λ z. Good (write_own_leaf l n m base access v alone leaf z r)) (sym same) (own_keeps b j base leaf r at e has (none j leaf) g))
      (write_class_cell l n m base access v row) (class_keeps base row h))

  pub to_keeps : (b : ℕ) (base : BaseInfo) (row : List (Cell I)) → slice_get bases b ≡ Some base → ((j : ℕ) (leaf : Leaf) → IsHit b j base leaf → ⊥) → Good row → Good (write_to l n m set access v alone base b row)
  unfolding write_base_if
  to_keeps b base row at none h = by_test (has_base set b) refl
    where
      by_test : (c : Bool) → has_base set b ≡ c → Good (cond c (write_base l n m base access v alone row) row)
      by_test true e = base_keeps b base row at e none h
      by_test false e = h

  -- all is kept where the position is not written in its place
  pub all_keeps : ((b j : ℕ) (base : BaseInfo) (leaf : Leaf) → IsHit b j base leaf → ⊥) → (row : List (Cell I)) → Good row → Good (write_all l n m bases set access v alone row)
  unfolding write_all
  all_keeps none row h = each_keeps Good (write_to l n m set access v alone) 0 bases
      (λ b a base e d r g. let same : a ≡ b = omega (arith, d) in subst (λ z. Good (write_to l n m set access v alone base z r)) (sym same) (to_keeps b base r e (λ j leaf. none b j base leaf) g)) row h
