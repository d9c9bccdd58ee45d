-- The leaves and class cells of a row behind a store of a character.
use Rattle.std.proofs.Common.{◌≡◌, ℕ, zero, suc, ◌+◌, ◌-◌, ◌*◌, ◌<◌, ◌≤◌, Bool, true, false, cond, ◌&&◌, Some, List, length, arith, subst, sym, refl, ap, ◌∙◌, inl, inr}
use Rattle.std.specs.Prelude.{slice_get, ℤ, ◌==◌, count_by, not, nat_le, nat_lt}
use Rattle.std.proofs.lemmas.Bool.{cases_Bool, cases_eq, and_parts, and_from, true≢false, eqb-true, leb-true, ltb-true}
use Rattle.std.proofs.lemmas.Option.{same_Some, slice_get_within}
use Rattle.cc_base.specs.Lattices.{LatticeOf, OrderLaws}
use Rattle.cc_base.specs.IntegerDomains.{IntegersOf, BoundLaws, RangeLaws}
use Rattle.cc_base.specs.IntegerLaws.{SoundLaws}
use Rattle.cc_base.specs.declared.int_types.IntType.{IntType}
use Rattle.c_layout.specs.declared.leaf_lists.Class.{Class}
use Rattle.c_layout.specs.declared.leaf_lists.Class.TheVariants.{Char}
use Rattle.c_layout.specs.declared.leaf_lists.Leaf.{Leaf}
use Rattle.c_layout.specs.declared.shapes.BaseInfo.{BaseInfo}
use Rattle.c_layout.specs.declared.shapes.BaseKind.TheVariants.{Older}
use Rattle.c_layout.specs.Leaves.{class_of}
use Rattle.cfg.specs.declared.machine_instructions.Scalar.TheVariants as of
use Rattle.cfg.specs.declared.programs.Flow.{Flow}
use Rattle.pointer_domain.specs.declared.base_sets.Bases.{Bases}
use Rattle.value_domain.specs.Values.LabelSets.{labels_leq}
use Rattle.value_domain.specs.declared.values.values.Value.{Value}
use Rattle.value_domain.specs.declared.values.row_cells.Cell.{Cell}
use Rattle.store_cells.specs.declared.access_windows.Window.{Window}
use Rattle.store.specs.declared.stores.Write.{Write}
use Rattle.store_cells.specs.AccessWindows.{window_is_one, window_between}
use Rattle.store_cells.specs.ByteWrites.{byte_written}
use Rattle.store_cells.specs.ClassNumbers.{same_class, class_number, class_at, is_pointer}
use Rattle.store_cells.specs.RowPositions.{leaf_position, class_position, value_at}
use Rattle.store.specs.LeafSelection.{is_selected, is_other, is_overlapped, has_place_in, has_stray}
use Rattle.store_objects.specs.LiveBases.{has_base}
use Rattle.store.specs.Loads.{reaches_class, labels_of}
use Rattle.store.specs.Stores.{stored_value, cell_value, is_strong, store_all}
use Rattle.memory_model.specs.Memory.Labels.{Labels}
use Rattle.memory_model.specs.Memory.ScalarSizes.{class_bytes}
use Rattle.memory_model.specs.Memory.Instances.{Memory, live, ended, life_at}
use Rattle.store_sound.specs.Concretization.Places.{IsPlaceOf, IsLeafPlace, OwnedByLeaf, OwnedByClass, IsClassPlace}
use Rattle.store_sound.specs.Concretization.SeenLabels.{as_set}
use Rattle.store_sound.specs.Concretization.SoundMemory.{IsMemoryOf}
use Rattle.store_sound.specs.Concretization.ValueMeaning.{Naming}
use Rattle.store_sound.specs.Concretization.RowMeaning.{IsLiveOf, InGammaCell, InGammaLeaf, InGammaClass, MachineState, InGamma}
use Rattle.store_sound.specs.Operations.Shapes.{AreShaped, AreLaid, at_offset}
use Rattle.store_sound.proofs.operations.Classes.{is_same_class, same_class_is, class_small, class_number_back, class_above, integer_class}
use Rattle.store_sound.proofs.operations.Selected.{place_selected, is_stray, counted_place, single_in}
use Rattle.store_sound.proofs.operations.Near.{IsNearValue}
use Rattle.store_sound.proofs.operations.FreshValues.{cell_of}
use Rattle.store_sound.proofs.operations.StoreValues.{written}
use Rattle.store_sound.proofs.operations.StoreRows.{leaf_is, class_is}
use Rattle.store_sound.proofs.operations.StoreLeaves.{IsAlone, live_ended, not_older, zero_count}
use Rattle.store_sound.proofs.chars.ByteStores.{IsByteStore, byte_of}
use Rattle.store_sound.proofs.chars.ByteRows.{leaf_value, char_value, other_value}
use Rattle.store_sound.proofs.chars.WrittenCells.{cell_apart, cell_other, cell_char}

char_not_other : (d : Class) → same_class d Char ≡ true → (b : Bool) → (not (same_class d Char) && b) ≡ false
char_not_other d e b = rw e refl

cond_apart : {A : Type 0} (b : Bool) (x y : A) → b ≡ false → cond b x y ≡ y
cond_apart true x y e = cc
cond_apart false x y e = refl

cond_hit : {A : Type 0} (b : Bool) (x y : A) → b ≡ true → cond b x y ≡ x
cond_hit true x y e = refl
cond_hit false x y e = cc

other_number : (cn : ℕ) → cn < 6 → (cn ≡ 0 → ⊥) → (j : ℕ) × (j < 5) × (cn ≡ j + 1)
other_number zero h n = absurd (n refl)
other_number (suc j) h n = (j, omega arith, omega arith)

module _ {I : Type 0} {l : LatticeOf I} {n : IntegersOf I} {gamma : I → ℤ → Type 0} (o : OrderLaws l) (q : BoundLaws l n gamma) (c : SoundLaws l n gamma) (r : RangeLaws l n) (flow : Flow) (shaped : AreShaped flow.bases.items) (behind : ℕ) (laid : AreLaid flow.bases.items behind) (naming : Naming) (row : List (Cell I)) (long : behind ≤ length row) (state : MachineState) (s : InGamma l n gamma flow naming row state)
    {new : Memory} {i offset : ℕ} (kind : IntType) (char : class_of kind ≡ Char) (z : ℤ) (labels : Labels) (x : Value I) (near : IsNearValue l n x) (st : gamma x.num z) (labelled : labels_leq (as_set labels) x.labels ≡ true) (u : IsByteStore state.memory new i offset (byte_of z labels)) (sane : IsMemoryOf flow.model flow.bases.items naming new)
    (b : ℕ) (base : BaseInfo) (at : slice_get flow.bases.items b ≡ Some base) (named : naming i ≡ Some b) (alive : life_at state.memory i ≡ live) (window : Window) (from : window.lo ≤ offset) (to : offset ≤ window.hi) (set : Bases) (has : has_base set b ≡ true) (alone : Bool) (only : alone ≡ true → IsAlone flow.bases.items set b) where
  abbrev the_write : Write I
  the_write = record { access = record { class = class_of kind; signed = kind.signed; window = window }; value = stored_value (class_of kind) x; alone = alone }

  is_char : same_class (class_of kind) Char ≡ true
  is_char = is_same_class (class_of kind) Char char

  abbrev after : List (Cell I)
  after = store_all l n flow.model flow.bases.items set the_write row

  -- the labels of what is stored
  stored_labels : labels_leq (as_set labels) (labels_of (class_of kind) x.labels) ≡ true
  stored_labels = let p = integer_class kind in subst (λ w. labels_leq (as_set labels) w ≡ true) (sym (cond_apart (is_pointer (class_of kind)) _ x.labels p)) labelled

  same_base : (d : ℕ) → IsLiveOf naming state.memory d i → b ≡ d
  same_base d h = same_Some b d (sym named ∙ h.named)

  has_here : (d : ℕ) → IsLiveOf naming state.memory d i → has_base set d ≡ true
  has_here d h = subst (λ w. has_base set w ≡ true) (same_base d h) has

  in_row : (d : ℕ) (other : BaseInfo) (j : ℕ) (leaf : Leaf) → slice_get flow.bases.items d ≡ Some other → slice_get other.shape.cells j ≡ Some leaf → leaf_position other j < length row
  in_row d other j leaf e f =
      let a = laid.close d other e in
      let k = laid.small in
      let t = slice_get_within other.shape.cells j leaf f in
      let p = leaf_is other j (omega arith) t in
      omega arith

  class_in_row : (d : ℕ) (other : BaseInfo) → slice_get flow.bases.items d ≡ Some other → other.shape.heap ≡ true → (cn : ℕ) → cn < 6 → class_position other cn < length row
  class_in_row d other e heap cn h =
      let a = laid.close d other e in
      let t = laid.small in
      let k : cond {A = ℕ} other.shape.heap 6 0 ≡ 6 = rw heap in
      let p = class_is other cn (omega arith) (omega arith) in
      omega arith

  strong_instance : (d : ℕ) (other : BaseInfo) → slice_get flow.bases.items d ≡ Some other → has_base set d ≡ true → alone ≡ true → (j : ℕ) → IsLiveOf naming state.memory d j → j ≡ i
  strong_instance d other e h a j k =
      let t = only a in
      let f : d ≡ b = t.one d h in
      let g : life_at state.memory j ≡ ended → ⊥ = λ w. live_ended (sym k.alive ∙ w) in
      let w : life_at state.memory i ≡ ended → ⊥ = λ w. live_ended (sym alive ∙ w) in
      s.sane.one j i b base at (not_older base.kind (t.single b base at has)) (k.named ∙ ap Some f) named g w

  -- ---- leaves

  abbrev LeafStands : ℕ → Leaf → Value I → Type 0
  LeafStands d leaf v = InGammaLeaf gamma flow naming new d leaf v

  -- what stands in a leaf that the store does not reach
  leaf_apart : (d j : ℕ) (other : BaseInfo) (leaf : Leaf) → slice_get flow.bases.items d ≡ Some other → slice_get other.shape.cells j ≡ Some leaf → (IsLiveOf naming state.memory d i → (a : ℕ) → IsPlaceOf leaf a → a ≤ offset → offset < a + class_bytes flow.model leaf.class → ⊥) → LeafStands d leaf (value_at l n row (leaf_position other j))
  leaf_apart d j other leaf e f miss = cell_apart o q c flow naming z labels u d leaf.class leaf.signed (λ size a. IsPlaceOf leaf a) (OwnedByLeaf flow.model leaf) (value_at l n row (leaf_position other j)) (s.leaves d j other leaf e f)
      miss
      (λ h k w. let t = w.there in let y = w.small in miss h w.start w.place (omega arith) (omega arith))

  overlapped : (d j : ℕ) (other : BaseInfo) (leaf : Leaf) → slice_get flow.bases.items d ≡ Some other → slice_get other.shape.cells j ≡ Some leaf → (a : ℕ) → IsPlaceOf leaf a → a ≤ offset → offset < a + class_bytes flow.model leaf.class → is_overlapped flow.model leaf window ≡ true
  overlapped d j other leaf e f a p h k = place_selected leaf (window_between (window.lo - (class_bytes flow.model leaf.class - 1)) window.hi) a p ((shaped.each d other e).strides j leaf f) (omega arith) (omega arith)

  -- a leaf of another class
  leaf_other : (d j : ℕ) (other : BaseInfo) (leaf : Leaf) → slice_get flow.bases.items d ≡ Some other → slice_get other.shape.cells j ≡ Some leaf → same_class leaf.class Char ≡ false → LeafStands d leaf (cond (is_other flow.model leaf window) (written l n flow.model (value_at l n row (leaf_position other j)) (byte_written l n flow.model leaf.class leaf.signed (labels_of (class_of kind) x.labels)) false) (value_at l n row (leaf_position other j)))
  leaf_other d j other leaf e f wide = elim (cases_Bool (is_other flow.model leaf window)) [
    | inr miss ↦ subst (LeafStands d leaf) (sym (cond_apart (is_other flow.model leaf window) _ (value_at l n row (leaf_position other j)) miss))
        (leaf_apart d j other leaf e f (λ h a p g k. true≢false (sym (and_from _ _ (ap not wide) (overlapped d j other leaf e f a p g k)) ∙ miss)))
    | inl hit ↦ subst (LeafStands d leaf) (sym (cond_hit (is_other flow.model leaf window) _ (value_at l n row (leaf_position other j)) hit))
        (cell_other o q c flow naming z labels u sane (labels_of (class_of kind) x.labels) stored_labels leaf.class leaf.signed d (leaf_position other j) row (λ size a. IsPlaceOf leaf a) (OwnedByLeaf flow.model leaf) (s.leaves d j other leaf e f))
  ]

  -- a leaf of characters
  leaf_char : (d j : ℕ) (other : BaseInfo) (leaf : Leaf) → slice_get flow.bases.items d ≡ Some other → slice_get other.shape.cells j ≡ Some leaf → leaf.class ≡ class_of kind → has_base set d ≡ true → LeafStands d leaf (cond (is_selected leaf (class_of kind) window) (written l n flow.model (value_at l n row (leaf_position other j)) (cell_value n flow.model the_write leaf.signed) (is_strong leaf the_write)) (value_at l n row (leaf_position other j)))
  leaf_char d j other leaf e f k hasd =
      let one : class_bytes flow.model leaf.class ≡ 1 = ap (class_bytes flow.model) (k ∙ char) in
      elim (cases_Bool (is_selected leaf (class_of kind) window)) [
        | inr miss ↦ subst (LeafStands d leaf) (sym (cond_apart (is_selected leaf (class_of kind) window) _ (value_at l n row (leaf_position other j)) miss))
            (leaf_apart d j other leaf e f (λ h a p g w. true≢false (sym (and_from _ _ (is_same_class leaf.class (class_of kind) k) (place_selected leaf window a p ((shaped.each d other e).strides j leaf f) (omega arith) (omega arith))) ∙ miss)))
        | inl hit ↦ subst (LeafStands d leaf) (sym (cond_hit (is_selected leaf (class_of kind) window) _ (value_at l n row (leaf_position other j)) hit))
            (subst (λ w. InGammaCell gamma flow naming new d w leaf.signed (λ size a. IsPlaceOf leaf a) (OwnedByLeaf flow.model leaf) (written l n flow.model (value_at l n row (leaf_position other j)) (cell_value n flow.model the_write leaf.signed) (is_strong leaf the_write))) (sym k)
            (cell_char o q c flow naming z labels u kind char x st labelled r near row d (leaf_position other j) leaf.signed (is_strong leaf the_write) (λ size a. IsPlaceOf leaf a) (OwnedByLeaf flow.model leaf)
            (subst (λ w. InGammaCell gamma flow naming state.memory d w leaf.signed (λ size a. IsPlaceOf leaf a) (OwnedByLeaf flow.model leaf) (value_at l n row (leaf_position other j))) k (s.leaves d j other leaf e f))
            (λ h j2 a al pl. let t = strong_at leaf hit h in let w = only_place leaf a t.0 pl in let y = t.1 in (strong_instance d other e hasd (and_parts alone (window_is_one window && (leaf.count == 1)) h).0 j2 al, omega arith))
            (λ h j2 a k2 al ow. let t = strong_at leaf hit h in let w = only_place leaf ow.start t.0 ow.place in let y = t.1 in let g = ow.there in let sm = ow.small in (strong_instance d other e hasd (and_parts alone (window_is_one window && (leaf.count == 1)) h).0 j2 al, omega arith))))
      ]
    where
      only_place : (leaf : Leaf) (a : ℕ) → leaf.count ≡ 1 → IsPlaceOf leaf a → a ≡ leaf.offset
      only_place leaf a e p = let f = p.few in let g : p.turn ≡ 0 = omega arith in let d : leaf.stride * p.turn ≡ leaf.stride * 0 = ap (λ w. leaf.stride * w) g in let w = p.there in omega arith

      strong_at : (leaf : Leaf) → is_selected leaf (class_of kind) window ≡ true → is_strong leaf the_write ≡ true → (leaf.count ≡ 1) × (leaf.offset ≡ offset)
      strong_at leaf w h =
          let p = and_parts alone (window_is_one window && (leaf.count == 1)) h in
          let t = and_parts (window_is_one window) (leaf.count == 1) p.1 in
          let k : leaf.count ≡ 1 = eqb-true _ _ t.1 in
          let e : window.lo ≡ window.hi = eqb-true _ _ t.0 in
          let g = single_in leaf window k (omega arith) (and_parts (same_class leaf.class (class_of kind)) (has_place_in leaf window) w).1 in
          let y = and_parts (nat_le window.lo leaf.offset) (nat_lt leaf.offset (window.lo + suc (window.hi - window.lo))) g in
          let lo = leb-true _ _ y.0 in
          let hi = ltb-true _ _ y.1 in
          (k, omega arith)

  abbrev own_of : Leaf → Value I → Value I
  own_of leaf v = cond (is_selected leaf (class_of kind) window) (written l n flow.model v (cell_value n flow.model the_write leaf.signed) (is_strong leaf the_write)) v

  abbrev other_of : Leaf → Value I → Value I
  other_of leaf v = cond (is_other flow.model leaf window) (written l n flow.model v (byte_written l n flow.model leaf.class leaf.signed (labels_of (class_of kind) x.labels)) false) v

  reached_leaf : (d j : ℕ) (other : BaseInfo) (leaf : Leaf) → slice_get flow.bases.items d ≡ Some other → slice_get other.shape.cells j ≡ Some leaf → has_base set d ≡ true → LeafStands d leaf (other_of leaf (own_of leaf (value_at l n row (leaf_position other j))))
  reached_leaf d j other leaf e f hasd = elim (cases_Bool (same_class leaf.class Char)) [
    | inl k ↦ (let g : leaf.class ≡ class_of kind = same_class_is leaf.class Char k ∙ sym char in
        subst (LeafStands d leaf) (sym (cond_apart (is_other flow.model leaf window) _ (own_of leaf (value_at l n row (leaf_position other j))) (char_not_other leaf.class k (is_overlapped flow.model leaf window))))
        (leaf_char d j other leaf e f g hasd))
    | inr k ↦ (let g : is_selected leaf (class_of kind) window ≡ false = unlike leaf k in
        subst (λ w. LeafStands d leaf (other_of leaf w)) (sym (cond_apart (is_selected leaf (class_of kind) window) _ (value_at l n row (leaf_position other j)) g))
        (leaf_other d j other leaf e f k))
  ]
    where
      and_apart : (a b : Bool) → a ≡ false → (a && b) ≡ false
      and_apart true b e = cc
      and_apart false b e = refl

      unlike : (leaf : Leaf) → same_class leaf.class Char ≡ false → is_selected leaf (class_of kind) window ≡ false
      unlike leaf e = and_apart (same_class leaf.class (class_of kind)) (has_place_in leaf window) (ap (same_class leaf.class) char ∙ e)

  pub leaf_stands : (d j : ℕ) (other : BaseInfo) (leaf : Leaf) → slice_get flow.bases.items d ≡ Some other → slice_get other.shape.cells j ≡ Some leaf → InGammaLeaf gamma flow naming new d leaf (value_at l n (store_all l n flow.model flow.bases.items set the_write row) (leaf_position other j))
  leaf_stands d j other leaf e f =
      let v : Value I = value_at l n row (leaf_position other j) in
      let is = leaf_value l n flow.model flow.bases.items behind laid set the_write (class_small (class_of kind)) is_char d other j leaf e f row (in_row d other j leaf e f) in
      elim (cases_Bool (has_base set d)) [
        | inl hit ↦ subst (LeafStands d leaf) (sym (is ∙ cond_hit (has_base set d) _ v hit)) (reached_leaf d j other leaf e f hit)
        | inr miss ↦ subst (LeafStands d leaf) (sym (is ∙ cond_apart (has_base set d) _ v miss)) (leaf_apart d j other leaf e f (λ h a p g k. true≢false (sym (has_here d h) ∙ miss)))
      ]

  -- ---- class cells

  class_apart : (d cn : ℕ) (other : BaseInfo) → slice_get flow.bases.items d ≡ Some other → other.shape.heap ≡ true → cn < 6 → (IsLiveOf naming state.memory d i → (a : ℕ) → (IsLeafPlace other.shape.cells (class_at cn) a → ⊥) → a ≤ offset → offset < a + class_bytes flow.model (class_at cn) → ⊥) → (IsLiveOf naming state.memory d i → (k : ℕ) → OwnedByClass flow.model other.shape.cells (class_at cn) offset k → ⊥)
      → InGammaClass gamma flow naming new d other (class_at cn) (value_at l n row (class_position other cn))
  class_apart d cn other e heap h miss none = cell_apart o q c flow naming z labels u d (class_at cn) true (IsClassPlace flow.model other.shape.cells (class_at cn)) (OwnedByClass flow.model other.shape.cells (class_at cn)) (value_at l n row (class_position other cn)) (s.classes d cn other e heap h)
      (λ g a p f k. miss g a p.no_leaf f k) none

  -- the class cell of another class is written where the base is reached
  other_class : (d cn j : ℕ) (other : BaseInfo) → slice_get flow.bases.items d ≡ Some other → other.shape.heap ≡ true → cn ≡ j + 1 → j < 5 → InGammaClass gamma flow naming new d other (class_at cn) (value_at l n after (class_position other cn))
  other_class d cn j other e heap k jh = subst (λ w. InGammaClass gamma flow naming new d other (class_at w) (value_at l n after (class_position other w))) (sym k)
      (let p : ℕ = class_position other (j + 1) in
      let v : Value I = value_at l n row p in
      let is = other_value l n flow.model flow.bases.items behind laid set the_write (class_small (class_of kind)) is_char d other e heap j jh row (class_in_row d other e heap (j + 1) (omega arith)) in
      elim (cases_Bool (has_base set d)) [
        | inl hit ↦ subst (InGammaClass gamma flow naming new d other (class_at (j + 1))) (sym (is ∙ cond_hit (has_base set d) _ v hit))
            (cell_other o q c flow naming z labels u sane (labels_of (class_of kind) x.labels) stored_labels (class_at (j + 1)) true d p row (IsClassPlace flow.model other.shape.cells (class_at (j + 1))) (OwnedByClass flow.model other.shape.cells (class_at (j + 1))) (s.classes d (j + 1) other e heap (omega arith)))
        | inr miss ↦ subst (InGammaClass gamma flow naming new d other (class_at (j + 1))) (sym (is ∙ cond_apart (has_base set d) _ v miss))
            (class_apart d (j + 1) other e heap (omega arith) (λ h a w f g. true≢false (sym (has_here d h) ∙ miss)) (λ h w f. true≢false (sym (has_here d h) ∙ miss)))
      ])

  -- the class cell of characters
  unreached : (d : ℕ) (other : BaseInfo) → slice_get flow.bases.items d ≡ Some other → other.shape.heap ≡ true → reaches_class other (the_write).access ≡ false → (IsLeafPlace other.shape.cells (class_of kind) offset → ⊥) → ⊥
  unreached d other e heap miss none =
      let shape = shaped.each d other e in
      let w : count_by (at_offset (class_of kind) offset) other.shape.cells ≡ 0 = zero_count _ (count_by (at_offset (class_of kind) offset) other.shape.cells) refl (λ k f. none (counted_place other.shape.cells (class_of kind) offset k (shape.single heap) f)) in
      let t : has_stray other.shape.cells (class_of kind) window ≡ true = is_stray other.shape.cells (class_of kind) (shape.apart heap (class_of kind)) window offset (shape.single heap) from to w in
      true≢false (sym (and_from _ _ heap t) ∙ miss)

  abbrev CharStands : ℕ → BaseInfo → Value I → Type 0
  CharStands d other v = InGammaClass gamma flow naming new d other (class_of kind) v

  char_apart : (d : ℕ) (other : BaseInfo) → slice_get flow.bases.items d ≡ Some other → other.shape.heap ≡ true → InGammaClass gamma flow naming state.memory d other (class_of kind) (value_at l n row (class_position other (class_number (class_of kind)))) → (IsLiveOf naming state.memory d i → (IsLeafPlace other.shape.cells (class_of kind) offset → ⊥) → ⊥) → CharStands d other (value_at l n row (class_position other (class_number (class_of kind))))
  char_apart d other e heap old miss =
      let one : class_bytes flow.model (class_of kind) ≡ 1 = ap (class_bytes flow.model) char in
      cell_apart o q c flow naming z labels u d (class_of kind) true (IsClassPlace flow.model other.shape.cells (class_of kind)) (OwnedByClass flow.model other.shape.cells (class_of kind)) (value_at l n row (class_position other (class_number (class_of kind)))) old
      (λ g a p f k. miss g (let w : a ≡ offset = omega arith in subst (λ y. IsLeafPlace other.shape.cells (class_of kind) y → ⊥) w p.no_leaf))
      (λ g k p. let sm = p.small in miss g (p.no_leaf offset (omega arith)))

  char_class : (d : ℕ) (other : BaseInfo) → slice_get flow.bases.items d ≡ Some other → other.shape.heap ≡ true → InGammaClass gamma flow naming state.memory d other (class_of kind) (value_at l n row (class_position other (class_number (class_of kind)))) → CharStands d other (value_at l n after (class_position other (class_number (class_of kind))))
  char_class d other e heap old =
      let p : ℕ = class_position other (class_number (class_of kind)) in
      let v : Value I = value_at l n row p in
      let is = char_value l n flow.model flow.bases.items behind laid set the_write (class_small (class_of kind)) is_char d other e heap row (class_in_row d other e heap (class_number (class_of kind)) (class_small (class_of kind))) in
      elim (cases_Bool (has_base set d)) [
        | inr miss ↦ subst (CharStands d other) (sym (is ∙ cond_apart (has_base set d) _ v miss)) (char_apart d other e heap old (λ h w. true≢false (sym (has_here d h) ∙ miss)))
        | inl hit ↦ subst (CharStands d other) (sym (is ∙ cond_hit (has_base set d) _ v hit)) (elim (cases_Bool (reaches_class other (the_write).access)) [
          | inr miss ↦ subst (CharStands d other) (sym (cond_apart (reaches_class other (the_write).access) _ v miss)) (char_apart d other e heap old (λ h w. unreached d other e heap miss w))
          | inl got ↦ subst (CharStands d other) (sym (cond_hit (reaches_class other (the_write).access) _ v got))
              (cell_char o q c flow naming z labels u kind char x st labelled r near row d p true false (IsClassPlace flow.model other.shape.cells (class_of kind)) (OwnedByClass flow.model other.shape.cells (class_of kind)) old (λ h. cc) (λ h. cc))
        ])
      ]

  pub class_stands : (d cn : ℕ) (other : BaseInfo) → slice_get flow.bases.items d ≡ Some other → other.shape.heap ≡ true → cn < 6 → InGammaClass gamma flow naming new d other (class_at cn) (value_at l n (store_all l n flow.model flow.bases.items set the_write row) (class_position other cn))
  class_stands d cn other e heap h = elim (cases_eq cn (class_number (class_of kind))) [
    | inl f ↦ (let k : class_at cn ≡ class_of kind = ap class_at f ∙ class_number_back (class_of kind) in
        let a : InGammaClass gamma flow naming state.memory d other (class_of kind) (value_at l n row (class_position other (class_number (class_of kind)))) =
        subst (λ y. InGammaClass gamma flow naming state.memory d other (class_of kind) (value_at l n row (class_position other y))) f (subst (λ y. InGammaClass gamma flow naming state.memory d other y (value_at l n row (class_position other cn))) k (s.classes d cn other e heap h)) in
        subst (λ y. InGammaClass gamma flow naming new d other y (value_at l n after (class_position other cn))) (sym k)
        (subst (λ y. InGammaClass gamma flow naming new d other (class_of kind) (value_at l n after (class_position other y))) (sym f) (char_class d other e heap a)))
    | inr f ↦ (let zero_is : class_number (class_of kind) ≡ 0 = ap class_number char in
        let t = other_number cn h (λ (g : cn ≡ 0). f (g ∙ sym zero_is)) in
        other_class d cn t.0 other e heap t.2 t.1)
  ]
