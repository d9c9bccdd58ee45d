-- The leaves and class cells of a row behind a store of a class other than char.
use Rattle.std.proofs.Common.{◌≡◌, ℕ, zero, suc, ◌+◌, ◌<◌, ◌≤◌, Bool, true, false, cond, ◌&&◌, Some, List, length, arith, subst, sym, refl, ap, ◌∙◌, inl, inr}
use Rattle.std.specs.Prelude.{slice_get, ℤ, ◌==◌, nat_lt, count_by, ◌*◌, nat_le, ◌-◌}
use Rattle.std.proofs.lemmas.Bool.{cases_Bool, and_parts, and_from, true≢false, eqb-true, cases_eq, leb-true, ltb-true}
use Rattle.std.proofs.lemmas.Option.{same_Some, slice_get_within}
use Rattle.cc_base.specs.Lattices.{LatticeOf, OrderLaws}
use Rattle.cc_base.specs.IntegerDomains.{IntegersOf, BoundLaws, RangeLaws}
use Rattle.c_layout.specs.declared.leaf_lists.Class.TheVariants.{Char}
use Rattle.c_layout.specs.declared.leaf_lists.Leaf.{Leaf}
use Rattle.c_layout.specs.declared.shapes.BaseInfo.{BaseInfo}
use Rattle.cfg.specs.declared.machine_instructions.Scalar as declared
use Rattle.cfg.specs.declared.programs.Flow.{Flow}
use Rattle.pointer_domain.specs.declared.base_sets.Bases.{Bases}
use Rattle.value_domain.specs.declared.values.values.Value.{Value}
use Rattle.value_domain.specs.declared.values.row_cells.Cell.{Cell}
use Rattle.store_cells.specs.declared.access_windows.Window.{Window}
use Rattle.store.specs.declared.stores.Write.{Write}
use Rattle.store_cells.specs.AccessWindows.{window_is_one}
use Rattle.store_cells.specs.ClassNumbers.{same_class, class_number, class_at}
use Rattle.memory_model.specs.Memory.ScalarSizes.{class_bytes}
use Rattle.store_cells.specs.RowPositions.{leaf_position, class_position, value_at}
use Rattle.store.specs.LeafSelection.{is_selected, has_place_in, has_stray}
use Rattle.store_objects.specs.LiveBases.{has_base, is_single_kind}
use Rattle.store.specs.Loads.{reaches_class}
use Rattle.store.specs.Stores.{stored_value, cell_value, is_strong, store_all}
use Rattle.memory_model.specs.Memory.Instances.{Memory, live, ended, freed, life_at}
use Rattle.store_sound.specs.Concretization.Places.{IsPlaceOf, IsLeafPlace, OwnedByLeaf, OwnedByClass, IsClassPlace}
use Rattle.memory_model.specs.Memory.Scalars.{Scalar}
use Rattle.store_sound.specs.Concretization.ValueMeaning.{Naming, InGammaScalar}
use Rattle.store_sound.specs.Concretization.RowMeaning.{IsLiveOf, InGammaCell, InGammaLeaf, InGammaClass, MachineState, InGamma}
use Rattle.memory_model.specs.Effects.Accesses.{class_in}
use Rattle.memory_model.specs.Effects.ScalarBytes.{scalar_bytes}
use Rattle.cc_base.specs.IntegerLaws.{SoundLaws}
use Rattle.store_sound.specs.Operations.Shapes.{AreShaped, AreLaid, at_offset}
use Rattle.store_sound.proofs.operations.Classes.{is_same_class, same_class_is, class_small, class_number_back}
use Rattle.store_sound.proofs.operations.Selected.{place_selected, is_stray, counted_place, single_in}
use Rattle.store_sound.specs.Operations.Scalars.{signed_in, IsOfKind}
use Rattle.store_sound.proofs.operations.MachineStores.{IsStore}
use Rattle.store_sound.proofs.operations.Near.{IsNearValue}
use Rattle.store_sound.proofs.operations.StoreValues.{written, same_value, leaf_value, class_value}
use Rattle.store_sound.proofs.operations.StoreRows.{leaf_is, class_is, other_class_after}
use Rattle.store_sound.proofs.operations.StoreCells.{cell_apart, cell_written}
use Rattle.c_layout.specs.declared.shapes.BaseKind.TheVariants.{Older}
use Rattle.cfg.specs.WellFormed.{base_values}

pub number_at : (cn : ℕ) → cn < 6 → class_number (class_at cn) ≡ cn
number_at zero h = refl
number_at (suc zero) h = refl
number_at (suc (suc zero)) h = refl
number_at (suc (suc (suc zero))) h = refl
number_at (suc (suc (suc (suc zero)))) h = refl
number_at (suc (suc (suc (suc (suc zero))))) h = refl
number_at (suc (suc (suc (suc (suc (suc k)))))) h = absurd (omega arith)

pub live_ended : live ≡ ended → ⊥
live_ended e = cc

pub live_freed : live ≡ freed → ⊥
live_freed e = cc

pub zero_count : (m k : ℕ) → m ≡ k → ((j : ℕ) → k ≡ suc j → ⊥) → k ≡ 0
zero_count m zero e h = refl
zero_count m (suc j) e h = absurd (h j refl)

-- a strong write goes to the one instance of the one base
pub record IsAlone (bases : List BaseInfo) (set : Bases) (b : ℕ) : Type 0 where
  pub one : (d : ℕ) → has_base set d ≡ true → d ≡ b
  pub single : (d : ℕ) (base : BaseInfo) → slice_get bases d ≡ Some base → has_base set d ≡ true → is_single_kind base.kind ≡ true

pub not_older : (kind : _) → is_single_kind kind ≡ true → kind ≡ Older → ⊥
not_older kind h e = let f : is_single_kind Older ≡ true = subst (λ k. is_single_kind k ≡ true) e h in cc

module _ {I : Type 0} {l : LatticeOf I} {n : IntegersOf I} {gamma : I → ℤ → Type 0} (o : OrderLaws l) (q : BoundLaws l n gamma) (c : SoundLaws l n gamma) (r : RangeLaws l n) (flow : Flow) (shaped : AreShaped flow.bases.items) (behind : ℕ) (laid : AreLaid flow.bases.items behind) (naming : Naming) (row : List (Cell I)) (long : behind ≤ length row) (state : MachineState) (s : InGamma l n gamma flow naming row state)
    {new : Memory} {i offset : ℕ} (kind : declared.Scalar) (wide : same_class (class_in kind) Char ≡ false) (v : Scalar) (of_kind : IsOfKind kind v) (x : Value I) (near : IsNearValue l n x) (st : InGammaScalar gamma naming state.memory x v) (u : IsStore state.memory new i offset (class_in kind) (class_bytes flow.model (class_in kind)) (scalar_bytes (class_bytes flow.model (class_in kind)) v))
    (b : ℕ) (base : BaseInfo) (at : slice_get flow.bases.items b ≡ Some base) (named : naming i ≡ Some b) (alive : life_at state.memory i ≡ live) (window : Window) (from : window.lo ≤ offset) (to : offset ≤ window.hi) (set : Bases) (has : has_base set b ≡ true) (alone : Bool) (only : alone ≡ true → IsAlone flow.bases.items set b) where
  abbrev the_write : Write I
  the_write = record { access = record { class = class_in kind; signed = signed_in kind; window = window }; value = stored_value (class_in kind) x; alone = alone }

  same_base : (d : ℕ) → IsLiveOf naming state.memory d i → b ≡ d
  same_base d h = same_Some b d (sym named ∙ h.named)

  fits_at : (d : ℕ) (other : BaseInfo) → slice_get flow.bases.items d ≡ Some other → other.first + base_values other ≤ behind
  fits_at d other e = laid.close d other e

  in_row : (d : ℕ) (other : BaseInfo) (j : ℕ) (leaf : Leaf) → slice_get flow.bases.items d ≡ Some other → slice_get other.shape.cells j ≡ Some leaf → leaf_position other j < length row
  in_row d other j leaf e f =
      let a = laid.close d other e in
      let k = laid.small in
      let t = slice_get_within other.shape.cells j leaf f in
      let p = leaf_is other j (omega arith) t in
      omega arith

  -- the store reaches a leaf that has the place
  leaf_missed : (d : ℕ) (other : BaseInfo) (j : ℕ) (leaf : Leaf) → slice_get flow.bases.items d ≡ Some other → slice_get other.shape.cells j ≡ Some leaf → (has_base set d && is_selected leaf (class_in kind) window) ≡ false → IsLiveOf naming state.memory d i → leaf.class ≡ class_in kind → IsPlaceOf leaf offset → ⊥
  leaf_missed d other j leaf e f miss h k p =
      let g : has_base set d ≡ true = subst (λ z. has_base set z ≡ true) (same_base d h) has in
      let w : is_selected leaf (class_in kind) window ≡ true = and_from _ _ (is_same_class _ _ k) (place_selected leaf window offset p ((shaped.each d other e).strides j leaf f) from to) in
      true≢false (sym (and_from _ _ g w) ∙ miss)

  -- a leaf of one place that a window of one offset reaches is there
  strong_place : (leaf : Leaf) → is_selected leaf (class_in kind) window ≡ true → is_strong leaf the_write ≡ true → (leaf.count ≡ 1) × (leaf.offset ≡ offset)
  strong_place leaf w h =
      let p = and_parts alone (window_is_one window && (leaf.count == 1)) h in
      let t = and_parts (window_is_one window) (leaf.count == 1) p.1 in
      let k : leaf.count ≡ 1 = eqb-true _ _ t.1 in
      let e : window.lo ≡ window.hi = eqb-true _ _ t.0 in
      let g = single_in leaf window k (omega arith) (and_parts (same_class leaf.class (class_in kind)) (has_place_in leaf window) w).1 in
      let y = and_parts (nat_le window.lo leaf.offset) (nat_lt leaf.offset (window.lo + suc (window.hi - window.lo))) g in
      let lo = leb-true _ _ y.0 in
      let hi = ltb-true _ _ y.1 in
      (k, omega arith)

  place_is : (leaf : Leaf) (a : ℕ) → leaf.count ≡ 1 → IsPlaceOf leaf a → a ≡ leaf.offset
  place_is leaf a e p = let f = p.few in let g : p.turn ≡ 0 = omega arith in let d : leaf.stride * p.turn ≡ leaf.stride * 0 = ap (λ z. leaf.stride * z) g in let w = p.there in omega arith

  strong_instance : (d : ℕ) (other : BaseInfo) → slice_get flow.bases.items d ≡ Some other → has_base set d ≡ true → alone ≡ true → (j : ℕ) → IsLiveOf naming state.memory d j → j ≡ i
  strong_instance d other e h a j k =
      let t = only a in
      let f : d ≡ b = t.one d h in
      let g : life_at state.memory j ≡ ended → ⊥ = λ z. live_ended (sym k.alive ∙ z) in
      let w : life_at state.memory i ≡ ended → ⊥ = λ z. live_ended (sym alive ∙ z) in
      s.sane.one j i b base at (not_older base.kind (t.single b base at has)) (k.named ∙ ap Some f) named g w

  class_in_row : (d : ℕ) (other : BaseInfo) → slice_get flow.bases.items d ≡ Some other → other.shape.heap ≡ true → (cn : ℕ) → cn < 6 → class_position other cn < length row
  class_in_row d other e heap cn h =
      let a = laid.close d other e in
      let t = laid.small in
      let k : cond {A = ℕ} other.shape.heap 6 0 ≡ 6 = rw heap in
      let p = class_is other cn (omega arith) (omega arith) in
      omega arith

  pub leaf_stands : (d j : ℕ) (other : BaseInfo) (leaf : Leaf) → slice_get flow.bases.items d ≡ Some other → slice_get other.shape.cells j ≡ Some leaf → InGammaLeaf gamma flow naming new d leaf (value_at l n (store_all l n flow.model flow.bases.items set the_write row) (leaf_position other j))
  leaf_stands d j other leaf e f = elim (cases_Bool (has_base set d && is_selected leaf (class_in kind) window)) [
    | inr miss ↦ subst (InGammaLeaf gamma flow naming new d leaf) (sym (leaf_value l n flow.model flow.bases.items behind laid set the_write (class_small (class_in kind)) wide row d other j leaf e f (in_row d other j leaf e f) ∙ rw miss refl))
        (cell_apart o q c flow naming kind v of_kind x st u d leaf.class leaf.signed (λ size z. IsPlaceOf leaf z) (OwnedByLeaf flow.model leaf) (value_at l n row (leaf_position other j)) (s.leaves d j other leaf e f)
        (λ h k p. leaf_missed d other j leaf e f miss h k p)
        (λ h k z p. leaf_missed d other j leaf e f miss h k (let w = p.there in subst (IsPlaceOf leaf) (omega arith) p.place)))
    | inl hit ↦ (let p = and_parts (has_base set d) (is_selected leaf (class_in kind) window) hit in
        let k : leaf.class ≡ class_in kind = same_class_is _ _ (and_parts (same_class leaf.class (class_in kind)) (has_place_in leaf window) p.1).0 in
        subst (InGammaLeaf gamma flow naming new d leaf) (sym (leaf_value l n flow.model flow.bases.items behind laid set the_write (class_small (class_in kind)) wide row d other j leaf e f (in_row d other j leaf e f) ∙ rw hit refl))
        (subst (λ z. InGammaCell gamma flow naming new d z leaf.signed (λ size a. IsPlaceOf leaf a) (OwnedByLeaf flow.model leaf) (written l n flow.model (value_at l n row (leaf_position other j)) (cell_value n flow.model the_write leaf.signed) (is_strong leaf the_write))) (sym k)
        (cell_written o q c flow naming kind v of_kind x st u r near row d (leaf_position other j) leaf.signed (is_strong leaf the_write) (λ size a. IsPlaceOf leaf a) (OwnedByLeaf flow.model leaf)
        (subst (λ z. InGammaCell gamma flow naming state.memory d z leaf.signed (λ size a. IsPlaceOf leaf a) (OwnedByLeaf flow.model leaf) (value_at l n row (leaf_position other j))) k (s.leaves d j other leaf e f))
        (λ h i2 a al pl. let t = strong_place leaf p.1 h in let w = place_is leaf a t.0 pl in let y = t.1 in (strong_instance d other e p.0 (and_parts alone (window_is_one window && (leaf.count == 1)) h).0 i2 al, omega arith))
        (λ h i2 a z al ow. let t = strong_place leaf p.1 h in let w = place_is leaf ow.start t.0 ow.place in let y = t.1 in let g = ow.there in let sm : z < class_bytes flow.model (class_in kind) = subst (λ cl. z < class_bytes flow.model cl) k ow.small in
        (strong_instance d other e p.0 (and_parts alone (window_is_one window && (leaf.count == 1)) h).0 i2 al, omega arith, omega arith)))))
  ]

  -- ---- class cells

  class_missed : (d : ℕ) (other : BaseInfo) → slice_get flow.bases.items d ≡ Some other → other.shape.heap ≡ true → (has_base set d && reaches_class other (the_write).access) ≡ false → IsLiveOf naming state.memory d i → (IsLeafPlace other.shape.cells (class_in kind) offset → ⊥) → ⊥
  class_missed d other e heap miss h none =
      let g : has_base set d ≡ true = subst (λ z. has_base set z ≡ true) (same_base d h) has in
      let shape = shaped.each d other e in
      let w : count_by (at_offset (class_in kind) offset) other.shape.cells ≡ 0 = zero_count _ (count_by (at_offset (class_in kind) offset) other.shape.cells) refl (λ k f. none (counted_place other.shape.cells (class_in kind) offset k (shape.single heap) f)) in
      let t : has_stray other.shape.cells (class_in kind) window ≡ true = is_stray other.shape.cells (class_in kind) (shape.apart heap (class_in kind)) window offset (shape.single heap) from to w in
      true≢false (sym (and_from _ _ g (and_from _ _ heap t)) ∙ miss)

  own_class_stands : (d : ℕ) (other : BaseInfo) → slice_get flow.bases.items d ≡ Some other → other.shape.heap ≡ true → InGammaClass gamma flow naming state.memory d other (class_in kind) (value_at l n row (class_position other (class_number (class_in kind)))) → InGammaClass gamma flow naming new d other (class_in kind) (value_at l n (store_all l n flow.model flow.bases.items set the_write row) (class_position other (class_number (class_in kind))))
  own_class_stands d other e heap old = elim (cases_Bool (has_base set d && reaches_class other (the_write).access)) [
    | inr miss ↦ subst (InGammaClass gamma flow naming new d other (class_in kind)) (sym (class_value l n flow.model flow.bases.items behind laid set the_write (class_small (class_in kind)) wide row d other e heap (class_in_row d other e heap (class_number (class_in kind)) (class_small (class_in kind))) ∙ rw miss refl))
        (cell_apart o q c flow naming kind v of_kind x st u d (class_in kind) true (IsClassPlace flow.model other.shape.cells (class_in kind)) (OwnedByClass flow.model other.shape.cells (class_in kind)) (value_at l n row (class_position other (class_number (class_in kind)))) old
        (λ h k p. class_missed d other e heap miss h p.no_leaf)
        (λ h k z p. class_missed d other e heap miss h (p.no_leaf offset refl)))
    | inl hit ↦ subst (InGammaClass gamma flow naming new d other (class_in kind)) (sym (class_value l n flow.model flow.bases.items behind laid set the_write (class_small (class_in kind)) wide row d other e heap (class_in_row d other e heap (class_number (class_in kind)) (class_small (class_in kind))) ∙ rw hit refl))
        (cell_written o q c flow naming kind v of_kind x st u r near row d (class_position other (class_number (class_in kind))) true false (IsClassPlace flow.model other.shape.cells (class_in kind)) (OwnedByClass flow.model other.shape.cells (class_in kind)) old (λ h. cc) (λ h. cc))
  ]

  pub class_stands : (d cn : ℕ) (other : BaseInfo) → slice_get flow.bases.items d ≡ Some other → other.shape.heap ≡ true → cn < 6 → InGammaClass gamma flow naming new d other (class_at cn) (value_at l n (store_all l n flow.model flow.bases.items set the_write row) (class_position other cn))
  class_stands d cn other e heap h = elim (cases_eq cn (class_number (class_in kind))) [
    | inl f ↦ (let k : class_at cn ≡ class_in kind = ap class_at f ∙ class_number_back (class_in kind) in
        let a : InGammaClass gamma flow naming state.memory d other (class_in kind) (value_at l n row (class_position other (class_number (class_in kind)))) =
        subst (λ z. InGammaClass gamma flow naming state.memory d other (class_in kind) (value_at l n row (class_position other z))) f (subst (λ z. InGammaClass gamma flow naming state.memory d other z (value_at l n row (class_position other cn))) k (s.classes d cn other e heap h)) in
        subst (λ z. InGammaClass gamma flow naming new d other z (value_at l n (store_all l n flow.model flow.bases.items set the_write row) (class_position other cn))) (sym k)
        (subst (λ z. InGammaClass gamma flow naming new d other (class_in kind) (value_at l n (store_all l n flow.model flow.bases.items set the_write row) (class_position other z))) (sym f) (own_class_stands d other e heap a)))
    | inr f ↦ (let ne : class_at cn ≡ class_in kind → ⊥ = λ k. f (sym (number_at cn h) ∙ ap class_number k) in
        subst (InGammaClass gamma flow naming new d other (class_at cn)) (sym (same_value l n row _ (class_position other cn) (other_class_after l n flow.model flow.bases.items behind laid set the_write (class_small (class_in kind)) wide d other cn e heap h f row)))
        (cell_apart o q c flow naming kind v of_kind x st u d (class_at cn) true (IsClassPlace flow.model other.shape.cells (class_at cn)) (OwnedByClass flow.model other.shape.cells (class_at cn)) (value_at l n row (class_position other cn)) (s.classes d cn other e heap h)
        (λ a k p. ne k) (λ a k z p. ne k)))
  ]
