-- A load through pointers into one base at one offset gets what the cell of the leaf there is.
use Rattle.std.proofs.Common.{◌≡◌, ℕ, ◌<◌, Bool, true, false, not, ◌&&◌, ◌||◌, Option, Some, None, List, arith, refl, ap, ◌∙◌}
use Rattle.std.specs.Prelude.{slice_get}
use Rattle.std.proofs.lemmas.Bool.{and_parts}
use Rattle.cc_base.specs.Lattices.{LatticeOf}
use Rattle.cc_base.specs.IntegerDomains.{IntegersOf}
use Rattle.c_layout.specs.declared.data_model.Model.{Model}
use Rattle.c_layout.specs.declared.leaf_lists.Class.TheVariants.{Char}
use Rattle.c_layout.specs.declared.leaf_lists.Leaf.{Leaf}
use Rattle.c_layout.specs.declared.shapes.BaseInfo.{BaseInfo}
use Rattle.pointer_domain.specs.declared.pointer_sets.Pointers.{Pointers}
use Rattle.value_domain.specs.declared.values.values.Value.{Value}
use Rattle.value_domain.specs.declared.values.row_cells.Cell.{Cell}
use Rattle.store_cells.specs.declared.cell_reads.Access.{Access}
use Rattle.store_cells.specs.ScalarTypes.{class_bytes}
use Rattle.store_cells.specs.ClassNumbers.{same_class, is_pointer}
use Rattle.store_cells.specs.RowPositions.{leaf_position, value_at}
use Rattle.store_cells.specs.AccessWindows.{window_of, window_between}
use Rattle.store_cells.specs.CellReads.{same_sign, as_read}
use Rattle.store_objects.specs.LiveBases.{most_bases, only_base}
use Rattle.store.specs.Loads.{labels_of, load_leaves, read_leaf, load_class_cell, load_other_leaves, read_other_leaf, load_padding, load_other_bytes, is_text, load_own, load_others, load_character, load_base, read_base, load_bases, loaded, load}
use Rattle.store_sound.proofs.operations.Classes.{same_class_is}
use Rattle.struct_copies_sound.specs.Leaves.StructLeaves.{IsStruct}
use Rattle.transfer_exact.proofs.places.OneTurn.{walk_idle, walk_once}
use Rattle.transfer_exact.proofs.places.OneBase.{has_own, has_no_other}
use Rattle.transfer_exact.proofs.places.OneLeaf.{own_selected, other_unselected, none_other, no_padding}

pub signs_agree : (p s : Bool) → (p || same_sign s s) ≡ true
signs_agree true s = refl
signs_agree false true = refl
signs_agree false false = refl

same_sign_read : {I : Type 0} (n : IntegersOf I) (m : Model) (v : Value I) (leaf : Leaf) → as_read n m v leaf.class leaf.signed leaf.signed ≡ v
same_sign_read n m v leaf = let e = signs_agree (is_pointer leaf.class) leaf.signed in rw e refl

module _ {I : Type 0} (l : LatticeOf I) (n : IntegersOf I) (m : Model) (bases : List BaseInfo) (row : List (Cell I)) (b : ℕ) (base : BaseInfo) (at : slice_get bases b ≡ Some base) (small : b < most_bases) (object : base.shape.heap ≡ false)
    (h : IsStruct m base.shape.cells base.size) (single : (j : ℕ) (leaf : Leaf) → slice_get base.shape.cells j ≡ Some leaf → leaf.count ≡ 1)
    (j : ℕ) (leaf : Leaf) (among : slice_get base.shape.cells j ≡ Some leaf) where
  abbrev access : Access
  access = record { class = leaf.class; signed = leaf.signed; window = window_between leaf.offset leaf.offset }

  abbrev cell : Value I
  cell = value_at l n row (leaf_position base j)

  -- what is read: the cell, perhaps without its flag
  abbrev pub read_as : Bool → Value I
  read_as flag = record cell { indeterminate = flag; labels = labels_of leaf.class cell.labels }

  pub record ReadsCell (found : Option (Value I)) : Type 0 where
    pub flag : Bool
    pub is : found ≡ Some (read_as flag)
    pub blank : flag ≡ true → cell.indeterminate ≡ true

  leaves_are : load_leaves l n m base row access ≡ Some cell
  unfolding load_leaves
  leaves_are =
      let own = own_selected m base.shape.cells base.size h single j leaf among in
      walk_once (read_leaf l n m base row access) 0 base.shape.cells None j j leaf among (omega arith) (λ i d other e f g t. let u = other_unselected m base.shape.cells base.size h single j leaf among i other e g in rw u refl)
      ∙ (rw own (ap Some (same_sign_read n m cell leaf)))

  own_is : load_own l n m base row access ≡ Some cell
  unfolding load_own load_class_cell
  own_is = let e = leaves_are in rw (e, object) refl

  others_none : leaf.class ≡ Char → load_others l n m base row access ≡ None
  unfolding load_others load_other_leaves load_other_bytes load_padding
  others_none char =
      let a = walk_idle (read_other_leaf l n m base row access) 0 base.shape.cells None (λ i d other e f. let u = none_other m base.shape.cells base.size h single j leaf among char i other e in rw u refl) in
      let b = no_padding m base.shape.cells base.size h single j leaf among char base.size in
      rw (a, object, b) refl

  and_first : (x y : Bool) → (x && y) ≡ true → x ≡ true
  and_first x y e = (and_parts x y e).0

  base_reads : (c : Bool) → same_class leaf.class Char ≡ c → (flag : Bool) × (load_base l n m base row access ≡ Some (record cell { indeterminate = flag })) × (flag ≡ true → cell.indeterminate ≡ true)
  unfolding load_base load_character
  base_reads false e = (cell.indeterminate, rw e own_is, λ g. g)
  base_reads true e =
      let own = own_is in
      let none = others_none (same_class_is leaf.class Char e) in
      let text : Bool = is_text l n base row access.window in
      (cell.indeterminate && not text, rw (e, own, none) refl, and_first cell.indeterminate (not text))

  bases_are : load_bases l n m bases row (only_base b) access ≡ load_base l n m base row access
  unfolding load_bases
  bases_are =
      walk_once (read_base l n m row (only_base b) access) 0 bases None b b base at (omega arith) (λ i d other e f g t. let u = has_no_other b d (λ k. g (omega (arith, f, k))) in rw u refl)
      ∙ (let own = has_own b small in rw (own, object) refl)

  pub load_reads : (p : Pointers I) → p.bases ≡ only_base b → window_of n p (class_bytes m leaf.class) ≡ Some (window_between leaf.offset leaf.offset) → ReadsCell (load l n m bases row p leaf.class leaf.signed)
  unfolding load
  load_reads p sole window =
      let r = base_reads (same_class leaf.class Char) refl in
      record { flag = r.0; is = rw (window, sole) (ap (loaded leaf.class) (bases_are ∙ r.1)); blank = r.2 }
