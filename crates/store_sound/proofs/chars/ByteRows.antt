-- What a store of a character makes of each position of a row.
use Rattle.std.proofs.Common.{◌≡◌, ℕ, zero, suc, ◌+◌, ◌-◌, ◌^◌, ◌<◌, ◌≤◌, Bool, true, false, cond, Option, Some, None, List, length, arith, subst, sym, refl, ap, ◌∙◌, inl, inr}
use Rattle.std.specs.Prelude.{slice_get, pos}
use Rattle.std.proofs.lemmas.Bool.{cases_Bool, cases_eq, eqb-true, true≢false}
use Rattle.std.proofs.lemmas.Option.{slice_get_within}
use Rattle.cc_base.specs.Lattices.{LatticeOf}
use Rattle.cc_base.specs.IntegerDomains.{IntegersOf}
use Rattle.cc_base.specs.declared.integer_operators.Rel.TheVariants.{Eq}
use Rattle.cc_base.specs.declared.integer_operators.Tri.{Tri}
use Rattle.c_layout.specs.declared.data_model.Model.{Model}
use Rattle.c_layout.specs.declared.leaf_lists.Class.TheVariants.{Char}
use Rattle.c_layout.specs.declared.leaf_lists.Leaf.{Leaf}
use Rattle.c_layout.specs.declared.shapes.BaseInfo.{BaseInfo}
use Rattle.c_layout.specs.declared.shapes.ZeroPart.{ZeroPart}
use Rattle.cfg.specs.WellFormed.{base_values, base_cells}
use Rattle.pointer_domain.specs.declared.base_sets.Bases.{Bases}
use Rattle.value_domain.specs.declared.strings.first_zeros.FirstZero.{FirstZero}
use Rattle.value_domain.specs.Values.Values.{value_lattice}
use Rattle.value_domain.specs.declared.values.label_sets.Labels.{Labels}
use Rattle.value_domain.specs.declared.values.values.Value as values
use Rattle.value_domain.specs.declared.values.row_cells.Cell.{Cell}
use Rattle.value_domain.specs.declared.values.row_cells.Cell.TheVariants.{Value, First}
use Rattle.store_cells.specs.declared.access_windows.Window.{Window}
use Rattle.store_cells.specs.declared.first_zero_writes.ZeroTarget.{ZeroTarget}
use Rattle.store.specs.declared.stores.Write.{Write}
use Rattle.store_cells.specs.ByteWrites.{byte_written}
use Rattle.store_cells.specs.ClassNumbers.{same_class, class_number, class_at}
use Rattle.store_cells.specs.NearValues.{near_number}
use Rattle.store_cells.specs.RowPositions.{leaf_position, class_position, zero_position, state_position, cell_at, zero_in, value_at, zero_at, join_value, put_zero}
use Rattle.store.specs.LeafSelection.{is_selected, is_other}
use Rattle.store_objects.specs.LiveBases.{has_base}
use Rattle.store_cells.specs.FirstZeroWrites.{zero_target, put_at, put_target, put_part, put_character}
use Rattle.store.specs.Loads.{reaches_class}
use Rattle.store_cells.specs.Walks.{walk, turns}
use Rattle.store.specs.Stores.{cell_value, is_strong, store_leaf_at, store_leaf, store_leaves, store_class_cell, store_own, store_other_leaf_at, store_other_leaf, store_other_leaves, store_other_class, store_other_classes, store_other_bytes, store_character, store_base, store_if, store_to, store_all}
use Rattle.store_sound.specs.Operations.Shapes.{AreLaid}
use Rattle.store_sound.proofs.operations.Only.{Leaves, Only, only_leaves, only_more, only_same, only_put, only_cond, only_if, only_then, only_walk, Turned, walk_turn, cell_put}
use Rattle.store_sound.proofs.operations.StoreRows.{Fits, leaf_is, class_is, zero_is, leaf_only, leaves_only, join_only, class_only, own_only, if_only}
use Rattle.store_sound.proofs.operations.StoreValues.{same_value, same_zero, written, cond_value, join_is, leaf_put, class_put}

cond_on : {A : Type 0} (b : Bool) (x y : A) → b ≡ true → cond b x y ≡ x
cond_on true x y e = refl
cond_on false x y e = cc

cond_off : {A : Type 0} (b : Bool) (x y : A) → b ≡ false → cond b x y ≡ y
cond_off true x y e = cc
cond_off false x y e = refl

-- ---- turns

module _ {I : Type 0} (f : ℕ → List (Cell I) → List (Cell I)) where
  only_turns : (lo hi count : ℕ) → ((k : ℕ) → k < count → Only lo hi (f k)) → Only lo hi (turns f count)
  only_turns lo hi zero h = only_same lo hi
  only_turns lo hi (suc count) h = only_then lo hi (turns f count) (f count) (only_turns lo hi count (λ k e. h k (omega arith))) (h count (omega arith))

  leaves_turns : (p count : ℕ) → ((k : ℕ) → k < count → Leaves p (f k)) → Leaves p (turns f count)
  leaves_turns p zero h = record { long = λ row. refl; keeps = λ row. refl }
  leaves_turns p (suc count) h =
      let a = leaves_turns p count (λ k e. h k (omega arith)) in
      let b = h count (omega arith) in
      record { long = λ row. b.long (turns f count row) ∙ a.long row; keeps = λ row. b.keeps (turns f count row) ∙ a.keeps row }

  turn_of : (p count j : ℕ) → j < count → ((k : ℕ) → k < count → (k ≡ j → ⊥) → Leaves p (f k)) → (row : List (Cell I)) → Turned p (f j) row (turns f count row)
  turn_of p zero j h g row = absurd (omega arith)
  turn_of p (suc count) j h g row = elim (cases_eq j count) [
    | inl e ↦ (let a = leaves_turns p count (λ k d. g k (omega arith) (λ (w : k ≡ j). omega arith)) in
        record { before = turns f count row; long = a.long row; same = a.keeps row; turn = ap (λ k. cell_at (f k (turns f count row)) p) (sym e) })
    | inr e ↦ (let r = turn_of p count j (omega arith) (λ k d n. g k (omega arith) n) row in
        let b = g count (omega arith) (λ (w : count ≡ j). e (sym w)) in
        record { before = r.before; long = r.long; same = r.same; turn = b.keeps (turns f count row) ∙ r.turn })
  ]

module _ {I : Type 0} (l : LatticeOf I) (n : IntegersOf I) where
  -- what a turn makes of a value, where it looks at that alone
  turned_value : (p : ℕ) (g : List (Cell I) → List (Cell I)) (row after : List (Cell I)) (G : values.Value I → values.Value I) → ((r : List (Cell I)) → length r ≡ length row → value_at l n (g r) p ≡ G (value_at l n r p)) → Turned p g row after → value_at l n after p ≡ G (value_at l n row p)
  turned_value p g row after G h t = same_value l n (g t.before) after p t.turn ∙ (h t.before t.long ∙ ap G (same_value l n row t.before p t.same))

  turned_zero : (p : ℕ) (g : List (Cell I) → List (Cell I)) (row after : List (Cell I)) (G : FirstZero I → FirstZero I) → ((r : List (Cell I)) → length r ≡ length row → zero_at l n (g r) p ≡ G (zero_at l n r p)) → Turned p g row after → zero_at l n after p ≡ G (zero_at l n row p)
  turned_zero p g row after G h t = same_zero l n (g t.before) after p t.turn ∙ (h t.before t.long ∙ ap G (same_zero l n row t.before p t.same))

  cond_zero : (b : Bool) (x y : List (Cell I)) (p : ℕ) → zero_at l n (cond b x y) p ≡ cond b (zero_at l n x p) (zero_at l n y p)
  cond_zero true x y p = refl
  cond_zero false x y p = refl

  -- a first zero that a character was written to, or was not
  abbrev pub zero_put : Option ZeroTarget → Tri → Bool → FirstZero I → FirstZero I
  zero_put None is_zero alone f = f
  zero_put (Some target) is_zero alone f = record { at = near_number l n (put_at l n f target is_zero alone).at }

  put_is : (row : List (Cell I)) (p : ℕ) (f : FirstZero I) → p < length row → zero_at l n (put_zero row p f) p ≡ record { at = near_number l n f.at }
  unfolding zero_at
  put_is row p f h = ap (λ c. record { at = near_number l n (zero_in l c).at }) (cell_put row p (First f) h)

  target_put : (row : List (Cell I)) (p : ℕ) (target : Option ZeroTarget) (is_zero : Tri) (alone : Bool) → p < length row → zero_at l n (put_target l n row p target is_zero alone) p ≡ zero_put target is_zero alone (zero_at l n row p)
  unfolding put_target
  target_put row p None is_zero alone h = refl
  target_put row p (Some target) is_zero alone h = put_is row p (put_at l n (zero_at l n row p) target is_zero alone) h

module _ {I : Type 0} (l : LatticeOf I) (n : IntegersOf I) (m : Model) where
  -- ---- where each part writes

  other_leaf_only : (write : Write I) (leaf : Leaf) (p : ℕ) → Only p (p + 1) (store_other_leaf_at l n m write leaf p)
  unfolding store_other_leaf_at
  other_leaf_only write leaf p = only_cond p (p + 1) (is_other m leaf write.access.window) _ (λ row. row) (join_only l n m p (byte_written l n m leaf.class leaf.signed write.value.labels)) (only_same p (p + 1))

  other_leaves_only : (base : BaseInfo) (write : Write I) → Fits base → Only base.first (base.first + length base.shape.cells) (store_other_leaves l n m base write)
  unfolding store_other_leaves
  other_leaves_only base write f = only_walk (store_other_leaf l n m base write) _ _ 0 base.shape.cells (λ j a leaf e d.
      let s = slice_get_within base.shape.cells j leaf e in
      let p = leaf_is base a f (omega arith) in
      only_more _ _ _ (omega arith) (omega arith) (other_leaf_only write leaf (leaf_position base a)))

  other_class_only : (base : BaseInfo) (labels : Labels) (at : ℕ) → Only (class_position base (at + 1)) (class_position base (at + 1) + 1) (store_other_class l n m base labels at)
  unfolding store_other_class
  other_class_only base labels at = join_only l n m (class_position base (at + 1)) (byte_written l n m (class_at (at + 1)) true labels)

  other_classes_only : (base : BaseInfo) (labels : Labels) → Fits base → base.shape.heap ≡ true → Only (base.first + length base.shape.cells) (base.first + base_cells base) (store_other_classes l n m base labels)
  unfolding store_other_classes
  other_classes_only base labels f heap = only_turns (store_other_class l n m base labels) _ _ 5 (λ k e.
      let w : cond {A = ℕ} base.shape.heap 6 0 ≡ 6 = rw heap in
      let p = class_is base (k + 1) f (omega arith) in
      only_more _ _ _ (omega arith) (omega arith) (other_class_only base labels k))

  other_bytes_only : (base : BaseInfo) (write : Write I) → Fits base → Only base.first (base.first + base_cells base) (store_other_bytes l n m base write)
  unfolding store_other_bytes
  other_bytes_only base write f = only_if _ _ base.shape.heap _ _
      (λ e. only_then _ _ (store_other_leaves l n m base write) (store_other_classes l n m base write.value.labels)
      (only_more _ _ _ (omega arith) (omega arith) (other_leaves_only base write f)) (only_more _ _ _ (omega arith) (omega arith) (other_classes_only base write.value.labels f e)))
      (λ e. only_more _ _ _ (omega arith) (omega arith) (other_leaves_only base write f))

  target_only : (p : ℕ) (target : Option ZeroTarget) (is_zero : Tri) (alone : Bool) → Only p (p + 1) (λ row. put_target l n row p target is_zero alone)
  unfolding put_target
  target_only p None is_zero alone = only_same p (p + 1)
  target_only p (Some target) is_zero alone = only_put p (p + 1) p (λ row. First (put_at l n (zero_at l n row p) target is_zero alone)) (omega arith) (omega arith)

  put_only : (base : BaseInfo) (w : Window) (is_zero : Tri) (alone : Bool) → Fits base → Only (base.first + base_cells base) ((base.first + base_cells base) + length base.shape.zeros) (put_character l n base w is_zero alone)
  unfolding put_character
  put_only base w is_zero alone f = only_walk (put_part l n base w is_zero alone) _ _ 0 base.shape.zeros (λ j a part e d.
      let s = slice_get_within base.shape.zeros j part e in
      let p = zero_is base a f (omega arith) in
      only_more _ _ (λ row. put_target l n row (zero_position base a) (zero_target part w) is_zero alone) (omega arith) (omega arith) (target_only (zero_position base a) (zero_target part w) is_zero alone))

  -- whether the character is zero
  abbrev pub zero_of_write : Write I → Tri
  zero_of_write write = n.compare Eq (cell_value n m write write.access.signed).num (n.one (pos 0))

  character_only : (base : BaseInfo) (write : Write I) → Fits base → Only base.first (base.first + base_values base) (store_character l n m base write)
  unfolding store_character
  character_only base write f = only_then _ _ (store_other_bytes l n m base write) (put_character l n base write.access.window (zero_of_write write) write.alone)
      (only_more _ _ _ (omega arith) (omega arith) (other_bytes_only base write f)) (only_more _ _ _ (omega arith) (omega arith) (put_only base write.access.window (zero_of_write write) write.alone f))

  base_only : (base : BaseInfo) (write : Write I) → Fits base → class_number write.access.class < 6 → same_class write.access.class Char ≡ true → Only base.first (base.first + base_values base) (store_base l n m base write)
  unfolding store_base
  base_only base write f small char = only_if _ _ (same_class write.access.class Char) (λ row. store_character l n m base write (store_own l n m base write row)) _
      (λ e. only_then _ _ (store_own l n m base write) (store_character l n m base write) (only_more _ _ _ (omega arith) (omega arith) (own_only l n m base write f small)) (character_only base write f))
      (λ e. absurd (true≢false (sym char ∙ e)))

  -- ---- what becomes of a position of a base

  module _ (bases : List BaseInfo) (behind : ℕ) (laid : AreLaid bases behind) (set : Bases) (write : Write I) (small : class_number write.access.class < 6) (char : same_class write.access.class Char ≡ true) where
    fits_at : (b : ℕ) (base : BaseInfo) → slice_get bases b ≡ Some base → Fits base
    fits_at b base e = let a = laid.small in let c = laid.close b base e in omega arith

    others_keep : (p b : ℕ) (base : BaseInfo) → slice_get bases b ≡ Some base → base.first ≤ p → p < base.first + base_values base → (row : List (Cell I)) → Turned p (store_to l n m set write base b) row (store_all l n m bases set write row)
    unfolding store_all
    others_keep p b base e h k row = walk_turn (store_to l n m set write) p 0 bases b b base e (omega arith) (λ i c other f d ne.
        only_leaves p _ (if_only l n m other.first (other.first + base_values other) (has_base set c) other write (base_only other write (fits_at i other f) small char))
        (λ u v. elim (laid.apart i b other base f e ne) [ inl x ↦ absurd (omega arith) | inr x ↦ absurd (omega arith) ])) row

    -- a position behind all bases stays
    pub behind_keeps : (p : ℕ) → behind ≤ p → Leaves p (store_all l n m bases set write)
    unfolding store_all
    behind_keeps p h = only_leaves p _ (only_walk (store_to l n m set write) 0 behind 0 bases (λ i c other f d.
        let k = laid.close i other f in
        only_more 0 behind _ (omega arith) (omega arith) (if_only l n m other.first (other.first + base_values other) (has_base set c) other write (base_only other write (fits_at i other f) small char)))) (λ u v. omega arith)

    base_is : (base : BaseInfo) (row : List (Cell I)) → store_base l n m base write row ≡ store_character l n m base write (store_own l n m base write row)
    unfolding store_base
    base_is base row = rw char

    -- a value, by what each base makes of it
    in_all : (p b : ℕ) (base : BaseInfo) → slice_get bases b ≡ Some base → base.first ≤ p → p < base.first + base_values base → (row : List (Cell I)) → (G : values.Value I → values.Value I) → ((r : List (Cell I)) → length r ≡ length row → value_at l n (store_base l n m base write r) p ≡ G (value_at l n r p)) → value_at l n (store_all l n m bases set write row) p ≡ cond (has_base set b) (G (value_at l n row p)) (value_at l n row p)
    unfolding store_if
    in_all p b base e h k row G g = turned_value l n p (store_to l n m set write base b) row _ (λ v. cond (has_base set b) (G v) v)
        (λ r d. cond_value l n m (has_base set b) (store_base l n m base write r) r p ∙ ap (λ v. cond (has_base set b) v (value_at l n r p)) (g r d))
        (others_keep p b base e h k row)

    zero_in_all : (p b : ℕ) (base : BaseInfo) → slice_get bases b ≡ Some base → base.first ≤ p → p < base.first + base_values base → (row : List (Cell I)) → (G : FirstZero I → FirstZero I) → ((r : List (Cell I)) → length r ≡ length row → zero_at l n (store_base l n m base write r) p ≡ G (zero_at l n r p)) → zero_at l n (store_all l n m bases set write row) p ≡ cond (has_base set b) (G (zero_at l n row p)) (zero_at l n row p)
    unfolding store_if
    zero_in_all p b base e h k row G g = turned_zero l n p (store_to l n m set write base b) row _ (λ v. cond (has_base set b) (G v) v)
        (λ r d. cond_zero l n (has_base set b) (store_base l n m base write r) r p ∙ ap (λ v. cond (has_base set b) v (zero_at l n r p)) (g r d))
        (others_keep p b base e h k row)

    -- ---- a leaf

    abbrev own_part : Leaf → values.Value I → values.Value I
    own_part leaf v = cond (is_selected leaf write.access.class write.access.window) (written l n m v (cell_value n m write leaf.signed) (is_strong leaf write)) v

    abbrev other_part : Leaf → values.Value I → values.Value I
    other_part leaf v = cond (is_other m leaf write.access.window) (written l n m v (byte_written l n m leaf.class leaf.signed write.value.labels) false) v

    leaf_turn : (base : BaseInfo) (f : Fits base) (g : Leaf → ℕ → List (Cell I) → List (Cell I)) → ((leaf : Leaf) (at : ℕ) → Only (leaf_position base at) (leaf_position base at + 1) (g leaf at)) → (j : ℕ) (leaf : Leaf) → slice_get base.shape.cells j ≡ Some leaf → (row : List (Cell I)) → Turned (leaf_position base j) (g leaf j) row (walk g 0 base.shape.cells row)
    leaf_turn base f g only j leaf e row = walk_turn g (leaf_position base j) 0 base.shape.cells j j leaf e (omega arith) (λ i c other d w ne.
        let s = slice_get_within base.shape.cells i other d in
        let t = slice_get_within base.shape.cells j leaf e in
        let p = leaf_is base c f (omega arith) in
        let r = leaf_is base j f t in
        only_leaves (leaf_position base j) _ (only other c) (λ u v. ne (omega arith))) row

    other_put : (row : List (Cell I)) (p : ℕ) (leaf : Leaf) → p < length row → value_at l n (store_other_leaf_at l n m write leaf p row) p ≡ other_part leaf (value_at l n row p)
    unfolding store_other_leaf_at
    other_put row p leaf h = cond_value l n m (is_other m leaf write.access.window) _ row p ∙ ap (λ v. cond (is_other m leaf write.access.window) v (value_at l n row p)) (join_is l n m row p (byte_written l n m leaf.class leaf.signed write.value.labels) h)

    own_leaf : (base : BaseInfo) (f : Fits base) (j : ℕ) (leaf : Leaf) → slice_get base.shape.cells j ≡ Some leaf → (row : List (Cell I)) → leaf_position base j < length row → value_at l n (store_own l n m base write row) (leaf_position base j) ≡ own_part leaf (value_at l n row (leaf_position base j))
    unfolding store_own store_leaves
    own_leaf base f j leaf e row h =
        let t = slice_get_within base.shape.cells j leaf e in
        let r = leaf_is base j f t in
        same_value l n (store_leaves l n m base write row) _ (leaf_position base j) ((class_only l n m base write f small).keeps (store_leaves l n m base write row) (leaf_position base j) (λ a b. omega arith))
        ∙ turned_value l n (leaf_position base j) (store_leaf l n m base write leaf j) row _ (own_part leaf) (λ z d. leaf_put l n m z (leaf_position base j) write leaf (omega arith)) (leaf_turn base f (store_leaf l n m base write) (λ other at. leaf_only l n m write other (leaf_position base at)) j leaf e row)

    other_leaf : (base : BaseInfo) (f : Fits base) (j : ℕ) (leaf : Leaf) → slice_get base.shape.cells j ≡ Some leaf → (row : List (Cell I)) → leaf_position base j < length row → value_at l n (store_other_leaves l n m base write row) (leaf_position base j) ≡ other_part leaf (value_at l n row (leaf_position base j))
    unfolding store_other_leaves
    other_leaf base f j leaf e row h = turned_value l n (leaf_position base j) (store_other_leaf l n m base write leaf j) row _ (other_part leaf) (λ z d. other_put z (leaf_position base j) leaf (omega arith)) (leaf_turn base f (store_other_leaf l n m base write) (λ other at. other_leaf_only write other (leaf_position base at)) j leaf e row)

    bytes_leaf : (heap : Bool) (base : BaseInfo) (f : Fits base) (j : ℕ) (leaf : Leaf) → base.shape.heap ≡ heap → slice_get base.shape.cells j ≡ Some leaf → (row : List (Cell I)) → leaf_position base j < length row → value_at l n (store_other_bytes l n m base write row) (leaf_position base j) ≡ other_part leaf (value_at l n row (leaf_position base j))
    unfolding store_other_bytes
    bytes_leaf false base f j leaf heap e row h = ap (λ z. value_at l n z (leaf_position base j)) (cond_off base.shape.heap (store_other_classes l n m base write.value.labels (store_other_leaves l n m base write row)) (store_other_leaves l n m base write row) heap) ∙ other_leaf base f j leaf e row h
    bytes_leaf true base f j leaf heap e row h =
        let t = slice_get_within base.shape.cells j leaf e in
        let r = leaf_is base j f t in
        ap (λ z. value_at l n z (leaf_position base j)) (cond_on base.shape.heap (store_other_classes l n m base write.value.labels (store_other_leaves l n m base write row)) (store_other_leaves l n m base write row) heap)
        ∙ (same_value l n (store_other_leaves l n m base write row) _ (leaf_position base j) ((other_classes_only base write.value.labels f heap).keeps (store_other_leaves l n m base write row) (leaf_position base j) (λ a b. omega arith))
        ∙ other_leaf base f j leaf e row h)

    leaf_in_base : (base : BaseInfo) (f : Fits base) (j : ℕ) (leaf : Leaf) → slice_get base.shape.cells j ≡ Some leaf → (row : List (Cell I)) → leaf_position base j < length row → value_at l n (store_base l n m base write row) (leaf_position base j) ≡ other_part leaf (own_part leaf (value_at l n row (leaf_position base j)))
    unfolding store_character
    leaf_in_base base f j leaf e row h =
        let t = slice_get_within base.shape.cells j leaf e in
        let r = leaf_is base j f t in
        let own : List (Cell I) = store_own l n m base write row in
        let long = (own_only l n m base write f small).long row in
        ap (λ z. value_at l n z (leaf_position base j)) (base_is base row)
        ∙ (same_value l n (store_other_bytes l n m base write own) _ (leaf_position base j) ((put_only base write.access.window (zero_of_write write) write.alone f).keeps (store_other_bytes l n m base write own) (leaf_position base j) (λ a b. omega arith))
        ∙ (bytes_leaf base.shape.heap base f j leaf refl e own (omega arith) ∙ ap (other_part leaf) (own_leaf base f j leaf e row h)))

    pub leaf_value : (b : ℕ) (base : BaseInfo) (j : ℕ) (leaf : Leaf) → slice_get bases b ≡ Some base → slice_get base.shape.cells j ≡ Some leaf → (row : List (Cell I)) → leaf_position base j < length row
        → value_at l n (store_all l n m bases set write row) (leaf_position base j) ≡ cond (has_base set b) (other_part leaf (own_part leaf (value_at l n row (leaf_position base j)))) (value_at l n row (leaf_position base j))
    leaf_value b base j leaf e g row h =
        let f = fits_at b base e in
        let t = slice_get_within base.shape.cells j leaf g in
        let r = leaf_is base j f t in
        in_all (leaf_position base j) b base e (omega arith) (omega arith) row (λ v. other_part leaf (own_part leaf v)) (λ z d. leaf_in_base base f j leaf g z (omega arith))

    -- ---- class cells

    own_number : class_number write.access.class ≡ 0
    own_number = eqb-true (class_number write.access.class) 0 char

    -- the class cell of characters
    char_in_base : (base : BaseInfo) (f : Fits base) → base.shape.heap ≡ true → (row : List (Cell I)) → class_position base (class_number write.access.class) < length row → value_at l n (store_base l n m base write row) (class_position base (class_number write.access.class)) ≡ cond (reaches_class base write.access) (written l n m (value_at l n row (class_position base (class_number write.access.class))) (cell_value n m write true) false) (value_at l n row (class_position base (class_number write.access.class)))
    unfolding store_character store_own store_other_bytes store_other_classes
    char_in_base base f heap row h =
        let p : ℕ = class_position base (class_number write.access.class) in
        let zero = own_number in
        let k : cond {A = ℕ} base.shape.heap 6 0 ≡ 6 = rw heap in
        let r = class_is base (class_number write.access.class) f (omega arith) in
        let leaves : List (Cell I) = store_leaves l n m base write row in
        let long = (leaves_only l n m base write f).long row in
        let own : List (Cell I) = store_own l n m base write row in
        let others : List (Cell I) = store_other_leaves l n m base write own in
        let bytes : store_other_bytes l n m base write own ≡ store_other_classes l n m base write.value.labels others = rw heap refl in
        ap (λ z. value_at l n z p) (base_is base row)
        ∙ (same_value l n (store_other_bytes l n m base write own) _ p ((put_only base write.access.window (zero_of_write write) write.alone f).keeps (store_other_bytes l n m base write own) p (λ a b. omega arith))
        ∙ (ap (λ z. value_at l n z p) bytes
        ∙ (same_value l n others _ p ((leaves_turns (store_other_class l n m base write.value.labels) p 5 (λ j e. let w = class_is base (j + 1) f (omega arith) in only_leaves p _ (other_class_only base write.value.labels j) (λ a b. omega arith))).keeps others)
        ∙ (same_value l n own others p ((other_leaves_only base write f).keeps own p (λ a b. omega arith))
        ∙ (class_put l n m leaves p write base refl (omega arith)
        ∙ ap (λ v. cond (reaches_class base write.access) (written l n m v (cell_value n m write true) false) v) (same_value l n row leaves p ((leaves_only l n m base write f).keeps row p (λ a b. omega arith))))))))

    pub char_value : (b : ℕ) (base : BaseInfo) → slice_get bases b ≡ Some base → base.shape.heap ≡ true → (row : List (Cell I)) → class_position base (class_number write.access.class) < length row
        → value_at l n (store_all l n m bases set write row) (class_position base (class_number write.access.class)) ≡ cond (has_base set b) (cond (reaches_class base write.access) (written l n m (value_at l n row (class_position base (class_number write.access.class))) (cell_value n m write true) false) (value_at l n row (class_position base (class_number write.access.class)))) (value_at l n row (class_position base (class_number write.access.class)))
    char_value b base e heap row h =
        let f = fits_at b base e in
        let k : cond {A = ℕ} base.shape.heap 6 0 ≡ 6 = rw heap in
        let r = class_is base (class_number write.access.class) f (omega arith) in
        in_all (class_position base (class_number write.access.class)) b base e (omega arith) (omega arith) row (λ v. cond (reaches_class base write.access) (written l n m v (cell_value n m write true) false) v) (λ z d. char_in_base base f heap z (omega arith))

    -- the class cell of another class
    other_in_base : (base : BaseInfo) (f : Fits base) → base.shape.heap ≡ true → (j : ℕ) → j < 5 → (row : List (Cell I)) → class_position base (j + 1) < length row → value_at l n (store_base l n m base write row) (class_position base (j + 1)) ≡ written l n m (value_at l n row (class_position base (j + 1))) (byte_written l n m (class_at (j + 1)) true write.value.labels) false
    unfolding store_character store_own store_other_bytes store_other_classes store_other_class store_class_cell
    other_in_base base f heap j jh row h =
        let p : ℕ = class_position base (j + 1) in
        let zero = own_number in
        let k : cond {A = ℕ} base.shape.heap 6 0 ≡ 6 = rw heap in
        let r = class_is base (j + 1) f (omega arith) in
        let w = class_is base (class_number write.access.class) f (omega arith) in
        let leaves : List (Cell I) = store_leaves l n m base write row in
        let own : List (Cell I) = store_own l n m base write row in
        let long = (own_only l n m base write f small).long row in
        let others : List (Cell I) = store_other_leaves l n m base write own in
        let longer = (other_leaves_only base write f).long own in
        let bytes : store_other_bytes l n m base write own ≡ store_other_classes l n m base write.value.labels others = rw heap refl in
        let cell : Only (class_position base (class_number write.access.class)) (class_position base (class_number write.access.class) + 1) (store_class_cell l n m base write) = only_cond _ _ (reaches_class base write.access) _ (λ r. r) (join_only l n m (class_position base (class_number write.access.class)) (cell_value n m write true)) (only_same _ _) in
        ap (λ z. value_at l n z p) (base_is base row)
        ∙ (same_value l n (store_other_bytes l n m base write own) _ p ((put_only base write.access.window (zero_of_write write) write.alone f).keeps (store_other_bytes l n m base write own) p (λ a b. omega arith))
        ∙ (ap (λ z. value_at l n z p) bytes
        ∙ (turned_value l n p (store_other_class l n m base write.value.labels j) others _ (λ v. written l n m v (byte_written l n m (class_at (j + 1)) true write.value.labels) false) (λ z d. join_is l n m z p (byte_written l n m (class_at (j + 1)) true write.value.labels) (omega arith))
        (turn_of (store_other_class l n m base write.value.labels) p 5 j jh (λ i e ne. let u = class_is base (i + 1) f (omega arith) in only_leaves p _ (other_class_only base write.value.labels i) (λ a b. ne (omega arith))) others)
        ∙ ap (λ v. written l n m v (byte_written l n m (class_at (j + 1)) true write.value.labels) false)
        (same_value l n own others p ((other_leaves_only base write f).keeps own p (λ a b. omega arith))
        ∙ (same_value l n leaves own p (cell.keeps leaves p (λ a b. omega arith))
        ∙ same_value l n row leaves p ((leaves_only l n m base write f).keeps row p (λ a b. omega arith)))))))

    pub other_value : (b : ℕ) (base : BaseInfo) → slice_get bases b ≡ Some base → base.shape.heap ≡ true → (j : ℕ) → j < 5 → (row : List (Cell I)) → class_position base (j + 1) < length row
        → value_at l n (store_all l n m bases set write row) (class_position base (j + 1)) ≡ cond (has_base set b) (written l n m (value_at l n row (class_position base (j + 1))) (byte_written l n m (class_at (j + 1)) true write.value.labels) false) (value_at l n row (class_position base (j + 1)))
    other_value b base e heap j jh row h =
        let f = fits_at b base e in
        let k : cond {A = ℕ} base.shape.heap 6 0 ≡ 6 = rw heap in
        let r = class_is base (j + 1) f (omega arith) in
        in_all (class_position base (j + 1)) b base e (omega arith) (omega arith) row (λ v. written l n m v (byte_written l n m (class_at (j + 1)) true write.value.labels) false) (λ z d. other_in_base base f heap j jh z (omega arith))

    -- ---- first zeros and states

    zero_in_base : (base : BaseInfo) (f : Fits base) (z : ℕ) (part : ZeroPart) → slice_get base.shape.zeros z ≡ Some part → (row : List (Cell I)) → zero_position base z < length row → zero_at l n (store_base l n m base write row) (zero_position base z) ≡ zero_put l n (zero_target part write.access.window) (zero_of_write write) write.alone (zero_at l n row (zero_position base z))
    unfolding store_character put_character
    zero_in_base base f z part e row h =
        let p : ℕ = zero_position base z in
        let t = slice_get_within base.shape.zeros z part e in
        let r = zero_is base z f (omega arith) in
        let own : List (Cell I) = store_own l n m base write row in
        let bytes : List (Cell I) = store_other_bytes l n m base write own in
        let long = (own_only l n m base write f small).long row in
        let longer = (other_bytes_only base write f).long own in
        ap (λ y. zero_at l n y p) (base_is base row)
        ∙ (turned_zero l n p (put_part l n base write.access.window (zero_of_write write) write.alone part z) bytes _ (zero_put l n (zero_target part write.access.window) (zero_of_write write) write.alone)
        (λ y d. target_put l n y p (zero_target part write.access.window) (zero_of_write write) write.alone (omega arith))
        (walk_turn (put_part l n base write.access.window (zero_of_write write) write.alone) p 0 base.shape.zeros z z part e (omega arith) (λ i c other g d ne.
        let s = slice_get_within base.shape.zeros i other g in
        let w = zero_is base c f (omega arith) in
        only_leaves p (λ y. put_target l n y (zero_position base c) (zero_target other write.access.window) (zero_of_write write) write.alone) (target_only (zero_position base c) (zero_target other write.access.window) (zero_of_write write) write.alone) (λ u v. ne (omega arith))) bytes)
        ∙ ap (zero_put l n (zero_target part write.access.window) (zero_of_write write) write.alone)
        (same_zero l n own bytes p ((other_bytes_only base write f).keeps own p (λ a b. omega arith))
        ∙ same_zero l n row own p ((own_only l n m base write f small).keeps row p (λ a b. omega arith))))

    pub zero_value : (b : ℕ) (base : BaseInfo) (z : ℕ) (part : ZeroPart) → slice_get bases b ≡ Some base → slice_get base.shape.zeros z ≡ Some part → (row : List (Cell I)) → zero_position base z < length row
        → zero_at l n (store_all l n m bases set write row) (zero_position base z) ≡ cond (has_base set b) (zero_put l n (zero_target part write.access.window) (zero_of_write write) write.alone (zero_at l n row (zero_position base z))) (zero_at l n row (zero_position base z))
    zero_value b base z part e g row h =
        let f = fits_at b base e in
        let t = slice_get_within base.shape.zeros z part g in
        let r = zero_is base z f (omega arith) in
        zero_in_all (zero_position base z) b base e (omega arith) (omega arith) row (zero_put l n (zero_target part write.access.window) (zero_of_write write) write.alone) (λ y d. zero_in_base base f z part g y (omega arith))

    base_keeps_state : (base : BaseInfo) (f : Fits base) → base.shape.heap ≡ true → Leaves (state_position base) (store_base l n m base write)
    unfolding store_character
    base_keeps_state base f heap =
        let p : ℕ = state_position base in
        let k : cond {A = ℕ} base.shape.heap 6 0 ≡ 6 = rw heap in
        let j : cond {A = ℕ} base.shape.heap 1 0 ≡ 1 = rw heap in
        let r = zero_is base (length base.shape.zeros) f (omega arith) in
        let a = own_only l n m base write f small in
        let b = other_bytes_only base write f in
        let c = put_only base write.access.window (zero_of_write write) write.alone f in
        record {
          long = λ row. ap length (base_is base row) ∙ (c.long (store_other_bytes l n m base write (store_own l n m base write row)) ∙ (b.long (store_own l n m base write row) ∙ a.long row));
          keeps = λ row. ap (λ z. cell_at z p) (base_is base row) ∙ (c.keeps (store_other_bytes l n m base write (store_own l n m base write row)) p (λ u v. omega arith) ∙ (b.keeps (store_own l n m base write row) p (λ u v. omega arith) ∙ a.keeps row p (λ u v. omega arith)));
        }

    pub state_after : (b : ℕ) (base : BaseInfo) → slice_get bases b ≡ Some base → base.shape.heap ≡ true → (row : List (Cell I)) → cell_at (store_all l n m bases set write row) (state_position base) ≡ cell_at row (state_position base)
    unfolding store_if
    state_after b base e heap row =
        let f = fits_at b base e in
        let k : cond {A = ℕ} base.shape.heap 6 0 ≡ 6 = rw heap in
        let j : cond {A = ℕ} base.shape.heap 1 0 ≡ 1 = rw heap in
        let r = zero_is base (length base.shape.zeros) f (omega arith) in
        let t = others_keep (state_position base) b base e (omega arith) (omega arith) row in
        elim (cases_Bool (has_base set b)) [
          | inl g ↦ t.turn ∙ (rw g ((base_keeps_state base f heap).keeps t.before) ∙ t.same)
          | inr g ↦ t.turn ∙ (rw g refl ∙ t.same)
        ]
