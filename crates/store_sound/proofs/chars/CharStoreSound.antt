-- A store of a character is stood for.
use Rattle.std.proofs.Common.{◌≡◌, ℕ, zero, suc, ◌+◌, ◌-◌, ◌*◌, ◌^◌, ◌%◌, ◌<◌, ◌≤◌, Bool, true, false, cond, ◌&&◌, ◌||◌, Option, Some, None, List, [], ◌∷◌, length, drop, take, arith, subst, sym, refl, ap, ◌∙◌, inl, inr}
use Rattle.std.specs.Prelude.{slice_get, ℤ, pos, ◌-ℤ◌, ◌≤ℤ◌, set, not, nat_lt, count_by, ◌==◌}
use Rattle.std.proofs.lemmas.Int.{ints}
use Rattle.std.proofs.lemmas.Bool.{cases_Bool, cases_eq, and_parts, and_from, or_left, or_right, true≢false, lt-ltb, ltb-true, ltb-false}
use Rattle.std.proofs.lemmas.List.{length-take, length-drop}
use Rattle.std.proofs.lemmas.Option.{same_Some, slice_get_within}
use Rattle.cc_base.specs.Lattices.{LatticeOf, OrderLaws}
use Rattle.cc_base.specs.IntegerDomains.{IntegersOf, BoundLaws, RangeLaws, IsNear}
use Rattle.cc_base.specs.IntegerLaws.{SoundLaws}
use Rattle.cc_base.specs.MachineArithmetic.{holds}
use Rattle.cc_base.specs.Truths.{can_hold, can_fail}
use Rattle.cc_base.specs.declared.int_types.IntType.{IntType}
use Rattle.cc_base.specs.declared.integer_operators.Rel.TheVariants.{Eq}
use Rattle.cc_base.specs.declared.integer_operators.Tri.{Tri}
use Rattle.c_layout.specs.declared.leaf_lists.Class.{Class}
use Rattle.c_layout.specs.declared.leaf_lists.Class.TheVariants.{Char}
use Rattle.c_layout.specs.declared.shapes.BaseInfo.{BaseInfo}
use Rattle.c_layout.specs.declared.shapes.ZeroPart.{ZeroPart}
use Rattle.c_layout.specs.Leaves.{class_of}
use Rattle.cfg.specs.declared.machine_instructions.Scalar.TheVariants as of
use Rattle.cfg.specs.declared.machine_instructions.Scalar as declared
use Rattle.cfg.specs.declared.programs.Flow.{Flow}
use Rattle.pointer_domain.specs.declared.base_sets.Bases.{Bases}
use Rattle.pointer_domain.specs.declared.pointer_sets.Pointers.{Pointers}
use Rattle.value_domain.specs.declared.strings.first_zeros.FirstZero.{FirstZero}
use Rattle.value_domain.specs.Values.LabelSets.{labels_leq}
use Rattle.value_domain.specs.declared.values.alloc_states.AllocState.{AllocState}
use Rattle.value_domain.specs.declared.values.values.Value.{Value}
use Rattle.value_domain.specs.declared.values.row_cells.Cell.{Cell}
use Rattle.store_cells.specs.declared.access_windows.Window.{Window}
use Rattle.store_cells.specs.declared.cell_reads.Access.{Access}
use Rattle.store_cells.specs.declared.first_zero_writes.ZeroTarget.{ZeroTarget}
use Rattle.store.specs.declared.stores.Write.{Write}
use Rattle.store_cells.specs.AccessWindows.{last_offset}
use Rattle.store_cells.specs.ClassNumbers.{same_class}
use Rattle.store_cells.specs.FirstZeroWrites.{zero_target, put_at}
use Rattle.store.specs.LeafSelection.{meets_padding, is_other, is_overlapped}
use Rattle.store_objects.specs.LiveBases.{has_base, most_bases, is_live_in, is_one_instance}
use Rattle.store_cells.specs.NearValues.{near_number}
use Rattle.store_cells.specs.RowPositions.{zero_position, state_position, zero_at, state_at}
use Rattle.store.specs.Stores.{stored_value, cell_value, store_all, reached_of, any_place, any_other, is_other_or, has_own_place, has_other_place, has_place, has_place_or, is_nothing, can_store, store_access, store as abstract_store}
use Rattle.store_cells.specs.AccessWindows.{window_between}
use Rattle.memory_model.specs.Memory.Labels.{Labels}
use Rattle.memory_model.specs.Memory.ScalarSizes.{class_bytes}
use Rattle.memory_model.specs.Memory.Bytes.{Content, number, MachinePointer, into, Tag, Byte}
use Rattle.memory_model.specs.Memory.Instances.{Memory, bytes_at, bytes_of, byte_at, live, ended, freed, life_at, Life}
use Rattle.memory_model.specs.Memory.Numbers.{Labelled, unsigned_of, number_of, signed_of}
use Rattle.memory_model.specs.Memory.Scalars.{Scalar, integer, pointer}
use Rattle.memory_model.specs.Memory.Tags.{tag_at}
use Rattle.memory_model.specs.Effects.Accesses.{class_in, store}
use Rattle.memory_model.specs.Effects.ScalarBytes.{bits_in}
use Rattle.memory_model.specs.Effects.Touches.{is_literal, storage_of, storage_at}
use Rattle.memory_model.specs.Effects.Worlds.{World, goes}
use Rattle.transfer_checks.specs.Temporaries.{temp_position, temp_value}
use Rattle.store_sound.specs.Concretization.FirstZeroBytes.{first_zero, zero_offset}
use Rattle.store_sound.specs.Concretization.Matching.{number_in}
use Rattle.store_sound.specs.Concretization.Places.{IsPlaceOf, OwnedByLeaf, IsLeafPlace}
use Rattle.store_sound.specs.Concretization.SeenLabels.{as_set}
use Rattle.store_sound.specs.Concretization.SoundMemory.{IsWithin, IsPointerIn, IsMemoryOf, IsInstanceOf, storage_for}
use Rattle.store_sound.specs.Concretization.ValueMeaning.{Naming, InGammaScalar, InGammaInto, InGammaPointer, InGammaState, InGammaZero}
use Rattle.store_sound.specs.Concretization.RowMeaning.{IsLiveOf, MachineState, InGamma, array_of, array_bytes}
use Rattle.store_sound.specs.Operations.Gives.{Gives}
use Rattle.store_sound.specs.Operations.Scalars.{signed_in, IsOfKind}
use Rattle.store_sound.specs.Operations.Shapes.{IsShaped, AreShaped, AreLaid, HasTexts, SeesPadding}
use Rattle.store_sound.proofs.operations.Classes.{is_same_class, same_class_is, class_small}
use Rattle.store_sound.proofs.operations.Frames.{scalar_moves, scalar_in_moves, live_moves}
use Rattle.store_sound.proofs.operations.FreshValues.{cell_of}
use Rattle.store_sound.proofs.operations.LoadSound.{instance_there}
use Rattle.store_sound.proofs.operations.Near.{IsNearValue}
use Rattle.store_sound.proofs.operations.Refills.{refill_sane}
use Rattle.store_sound.proofs.operations.Selected.{place_selected}
use Rattle.store_sound.proofs.operations.Sets.{in_reached}
use Rattle.store_sound.proofs.operations.Slices.{get_there}
use Rattle.store_sound.proofs.operations.StoreLeaves.{IsAlone, live_ended, not_older}
use Rattle.store_sound.proofs.operations.StorePlaces.{leaf_place, is_something}
use Rattle.store_sound.proofs.operations.StoreRows.{zero_is}
use Rattle.store_sound.proofs.operations.StoreSound.{into_live, live_here, not_literal, alone_is, named_moves}
use Rattle.store_sound.proofs.operations.StoreValues.{same_value, same_zero, same_state}
use Rattle.store_sound.proofs.operations.StoreZeros.{zero_small, offset_near}
use Rattle.store_sound.proofs.operations.TagPlaces.{is_tagged}
use Rattle.store_sound.proofs.operations.Texts.{zero_near}
use Rattle.store_sound.proofs.operations.TouchedRest.{near_stands}
use Rattle.store_sound.proofs.operations.Walks.{walk_meets}
use Rattle.store_sound.proofs.operations.Windows.{window_has}
use Rattle.store_sound.proofs.chars.ByteStores.{IsByteStore, byte_of, byte_goes}
use Rattle.store_sound.proofs.chars.ByteValues.{byte_number}
use Rattle.store_sound.proofs.chars.ByteRows.{zero_put, zero_of_write, behind_keeps, zero_value, state_after}
use Rattle.store_sound.proofs.chars.ByteZeros.{put_inside, put_outside}
use Rattle.store_sound.proofs.chars.ByteArrays.{IsIn, in_or_not, array_kept, place_there, place_inside, array_set, IsTarget, target_is, target_there, local_has, local_small, whole_in}
use Rattle.store_sound.proofs.chars.WrittenRows.{leaf_stands, class_stands}

-- ---- whether the byte is zero

signed_zero : (d : ℕ) → d < 256 → signed_of 8 (d + 256 * 0) ≡ pos 0 → d ≡ 0
signed_zero d h e = elim (cases_Bool (nat_lt (2 * (d + 256 * 0)) 256)) [
  | inl f ↦ (let g : pos (d + 256 * 0) ≡ pos 0 = rw f at e in omega (arith, ints))
  | inr f ↦ (let k = ltb-false _ _ f in let g : (pos (d + 256 * 0) -ℤ pos 256) ≡ pos 0 = rw f at e in absurd (omega (arith, ints)))
]

byte_zero : (t : Bool) (y : Labelled) → y.number < 256 → number_of t (y ∷ []) ≡ pos 0 → y.number ≡ 0
byte_zero true y h e = signed_zero y.number h e
byte_zero false y h e = let f : pos (y.number + 256 * 0) ≡ pos 0 = e in omega (arith, ints)

zero_byte : (t : Bool) (y : Labelled) → y.number ≡ 0 → number_of t (y ∷ []) ≡ pos 0
zero_byte true y h = ap (λ d. signed_of 8 (d + 256 * 0)) h
zero_byte false y h = ap (λ d. pos (d + 256 * 0)) h

same_holds : (a : ℤ) → a ≡ pos 0 → holds Eq a (pos 0) ≡ true
same_holds a e = ap (λ z. holds Eq z (pos 0)) e

other_fails : (a : ℤ) → (a ≡ pos 0 → ⊥) → holds Eq a (pos 0) ≡ false
other_fails a n = elim (cases_Bool (holds Eq a (pos 0))) [ inr e ↦ e | inl e ↦ absurd (n (grind (arith, ints))) ]

module _ {I : Type 0} {l : LatticeOf I} {n : IntegersOf I} {gamma : I → ℤ → Type 0} (q : BoundLaws l n gamma) (c : SoundLaws l n gamma) (flow : Flow) (kind : IntType) (char : class_of kind ≡ Char) (z : ℤ) (labels : Labels) (x : Value I) (st : gamma x.num z) where
  abbrev stored_byte : Labelled
  stored_byte = record { number = bits_in 1 z % 256; labels = labels }

  num_stands : gamma (cell_of n flow.model (of.Int kind) x kind.signed).num (number_of kind.signed (stored_byte ∷ []))
  num_stands = byte_number c flow.model kind char z labels x st kind.signed (stored_byte ∷ []) (sym (ap (class_bytes flow.model) char)) (λ y e. let f : stored_byte ≡ y = cc in sym (ap number_in f))

  pub may_be_zero : bits_in 1 z % 256 ≡ 0 → can_hold (n.compare Eq (cell_of n flow.model (of.Int kind) x kind.signed).num (n.one (pos 0))) ≡ true
  may_be_zero e = c.compare_holds Eq _ (n.one (pos 0)) (number_of kind.signed (stored_byte ∷ [])) (pos 0) num_stands (q.one_stands (pos 0)) (same_holds _ (zero_byte kind.signed stored_byte e))

  pub may_be_other : (bits_in 1 z % 256 ≡ 0 → ⊥) → can_fail (n.compare Eq (cell_of n flow.model (of.Int kind) x kind.signed).num (n.one (pos 0))) ≡ true
  may_be_other ne = c.compare_fails Eq _ (n.one (pos 0)) (number_of kind.signed (stored_byte ∷ [])) (pos 0) num_stands (q.one_stands (pos 0)) (other_fails _ (λ e. ne (byte_zero kind.signed stored_byte (omega arith) e)))

-- ---- a place for a character

or_at : (found more : Bool) → found ≡ true → (found || more) ≡ true
or_at found more h = rw h refl

module _ (flow : Flow) (shaped : AreShaped flow.bases.items) (padding : SeesPadding flow.model flow.bases.items) (b : ℕ) (base : BaseInfo) (at : slice_get flow.bases.items b ≡ Some base) (access : Access) (char : access.class ≡ Char) (offset : ℕ) (from : access.window.lo ≤ offset) (to : offset ≤ access.window.hi) where
  is_char : same_class access.class Char ≡ true
  is_char = is_same_class access.class Char char

  in_others : has_other_place flow.model base access.window ≡ true → has_place flow.model base access ≡ true
  unfolding has_place
  in_others h = or_right (has_own_place base access) _ (and_from _ _ is_char h)

  in_own : has_own_place base access ≡ true → has_place flow.model base access ≡ true
  unfolding has_place
  in_own h = or_at _ _ h

  on_heap : base.shape.heap ≡ true → has_other_place flow.model base access.window ≡ true
  unfolding has_other_place
  on_heap h = or_at _ _ h

  in_padding : meets_padding flow.model base.shape.cells access.window base.size ≡ true → has_other_place flow.model base access.window ≡ true
  unfolding has_other_place
  in_padding h = or_right base.shape.heap _ (or_right (any_other flow.model base.shape.cells access.window) _ h)

  in_leaf : (j : ℕ) (leaf : _) → slice_get base.shape.cells j ≡ Some leaf → is_other flow.model leaf access.window ≡ true → has_other_place flow.model base access.window ≡ true
  unfolding has_other_place any_other
  in_leaf j leaf e h = or_right base.shape.heap _ (or_at _ _ (walk_meets (λ s. s ≡ true) (is_other_or flow.model access.window) (λ k a s f. or_at s _ f) 0 base.shape.cells false j j leaf e (omega arith) (λ s. or_right s _ h)))

  in_object : base.shape.heap ≡ false → (tag : Option Tag) → tag_at flow.model base.shape.cells offset ≡ tag → offset < base.size → has_place flow.model base access ≡ true
  in_object heap None f g = in_others (in_padding (padding b base access.window offset at heap from to g f))
  in_object heap (Some t) f g =
      let r = is_tagged flow.model base.shape.cells offset t f in
      let w = r.owned in
      let there = w.there in
      let sm = w.small in
      let stride = (shaped.each b base at).strides r.index r.leaf r.among in
      elim (cases_Bool (same_class r.leaf.class Char)) [
        | inr k ↦ in_others (in_leaf r.index r.leaf r.among (and_from _ _ (ap not k) (place_selected r.leaf (window_between (access.window.lo - (class_bytes flow.model r.leaf.class - 1)) access.window.hi) w.start w.place stride (omega arith) (omega arith))))
        | inl k ↦ (let one : class_bytes flow.model r.leaf.class ≡ 1 = ap (class_bytes flow.model) (same_class_is r.leaf.class Char k) in
            in_own (leaf_place base access r.index r.leaf r.among (and_from _ _ (is_same_class r.leaf.class access.class (same_class_is r.leaf.class Char k ∙ sym char)) (place_selected r.leaf access.window w.start w.place stride (omega arith) (omega arith)))))
      ]

  pub char_place : (heap : Bool) → base.shape.heap ≡ heap → (heap ≡ false → offset < base.size) → has_place flow.model base access ≡ true
  char_place true h g = in_others (on_heap h)
  char_place false h g = in_object h (tag_at flow.model base.shape.cells offset) refl (g refl)

  pub char_any_place : (s : Bases) → has_base s b ≡ true → has_place flow.model base access ≡ true → any_place flow.model flow.bases.items s access ≡ true
  unfolding any_place
  char_any_place s h g = walk_meets (λ y. y ≡ true) (has_place_or flow.model s access) (λ k a y f. or_at y _ f) 0 flow.bases.items false b b base at (omega arith) (λ y. or_right y _ (and_from _ _ h g))

-- ---- the row

module _ {I : Type 0} {l : LatticeOf I} {n : IntegersOf I} {gamma : I → ℤ → Type 0} (o : OrderLaws l) (q : BoundLaws l n gamma) (c : SoundLaws l n gamma) (r : RangeLaws l n) (flow : Flow) (shaped : AreShaped flow.bases.items) (texts : (b : ℕ) (base : BaseInfo) → slice_get flow.bases.items b ≡ Some base → HasTexts flow.model base) (padding : SeesPadding flow.model flow.bases.items) (behind : ℕ) (laid : AreLaid flow.bases.items behind) (temporaries : behind ≤ flow.width - flow.temps) (naming : Naming) (row : List (Cell I)) (long : behind ≤ length row) (state : MachineState) (s : InGamma l n gamma flow naming row state) where
  module _ {new : Memory} {i offset : ℕ} (kind : IntType) (char : class_of kind ≡ Char) (z : ℤ) (labels : Labels) (x : Value I) (near : IsNearValue l n x) (st : gamma x.num z) (labelled : labels_leq (as_set labels) x.labels ≡ true) (u : IsByteStore state.memory new i offset (byte_of z labels))
      (b : ℕ) (base : BaseInfo) (at : slice_get flow.bases.items b ≡ Some base) (named : naming i ≡ Some b) (alive : life_at state.memory i ≡ live) (window : Window) (from : window.lo ≤ offset) (to : offset ≤ window.hi) (set_of : Bases) (has : has_base set_of b ≡ true) (alone : Bool) (only : alone ≡ true → IsAlone flow.bases.items set_of b) where
    abbrev write : Write I
    write = record { access = record { class = class_of kind; signed = kind.signed; window = window }; value = stored_value (class_of kind) x; alone = alone }

    abbrev after : List (Cell I)
    after = store_all l n flow.model flow.bases.items set_of write row

    is_char_write : same_class (class_of kind) Char ≡ true
    is_char_write = is_same_class (class_of kind) Char char

    sane_new : IsMemoryOf flow.model flow.bases.items naming new
    sane_new = refill_sane flow.model flow.bases.items naming u.refill one_number s.sane
      where
        one_number : (k : ℕ) (d : Content) → slice_get (byte_of z labels ∷ []) k ≡ Some d → (e : ℕ) × (la : Labels) × (d ≡ number e la) × (e < 256)
        one_number zero d e = (bits_in 1 z % 256, labels, cc, omega arith)
        one_number (suc k) d e = cc

    zero_in_row : (d y : ℕ) (other : BaseInfo) (zeros : ZeroPart) → slice_get flow.bases.items d ≡ Some other → slice_get other.shape.zeros y ≡ Some zeros → zero_position other y < length row
    zero_in_row d y other zeros e f =
        let a = laid.close d other e in
        let k = laid.small in
        let t = slice_get_within other.shape.zeros y zeros f in
        let p = zero_is other y (omega arith) (omega arith) in
        omega arith

    same_instance : (d : ℕ) (other : BaseInfo) → slice_get flow.bases.items d ≡ Some other → has_base set_of d ≡ true → alone ≡ true → (j : ℕ) → IsLiveOf naming state.memory d j → j ≡ i
    same_instance d other e h a j k =
        let t = only a in
        let f : d ≡ b = t.one d h in
        s.sane.one j i b base at (not_older base.kind (t.single b base at has)) (k.named ∙ ap Some f) named (λ w. live_ended (sym k.alive ∙ w)) (λ w. live_ended (sym alive ∙ w))

    array_small : (zeros : ZeroPart) (j : ℕ) → length (array_bytes zeros (bytes_at state.memory j)) ≤ 2 ^ 64 - 1
    array_small zeros j = let a = s.sane.small j in by_size zeros.size (bytes_at state.memory j) zeros.offset a
      where
        by_size : (size : Option ℕ) (bytes : List Byte) (start : ℕ) → length bytes ≤ 2 ^ 64 - 1 → length (array_of size (drop start bytes)) ≤ 2 ^ 64 - 1
        by_size None bytes start h = let e = length-drop start bytes in omega arith
        by_size (Some size) bytes start h = let e = length-drop start bytes in let f = length-take size (drop start bytes) in omega arith

    offset_small : offset ≤ 2 ^ 64 - 1
    offset_small = let a = s.sane.small i in let e = u.fits in omega arith

    -- what is followed of an array that the base's write meets
    met_zero : (d j : ℕ) (other : BaseInfo) (zeros : ZeroPart) (f : FirstZero I) (target : ZeroTarget) → slice_get flow.bases.items d ≡ Some other → has_base set_of d ≡ true → IsLiveOf naming state.memory d j → IsNear (n.bounds f.at) → IsTarget zeros window target → InGammaZero gamma naming state.memory f (array_bytes zeros (bytes_at state.memory j))
        → InGammaZero gamma naming new (put_at l n f target (zero_of_write l n flow.model write) alone) (array_bytes zeros (bytes_at new j))
    met_zero d j other zeros f target e h g nf t a = elim (cases_eq j i) [
      | inr ne ↦ outside (λ k. ne k)
      | inl k ↦ elim (in_or_not zeros.size zeros.offset offset) [
        | inr out ↦ outside_in k out
        | inl inside ↦ (let w = local_has zeros window target offset t inside from to offset_small in
            let hi = local_small zeros window target t in
            subst (λ m. InGammaZero gamma naming new (put_at l n f target (zero_of_write l n flow.model write) alone) (array_bytes zeros (bytes_at new m))) (sym k)
            (subst (InGammaZero gamma naming new (put_at l n f target (zero_of_write l n flow.model write) alone)) (sym (array_set u zeros inside))
            (put_inside o q f target (zero_of_write l n flow.model write) alone (array_bytes zeros (bytes_at state.memory i)) (offset - zeros.offset) (bits_in 1 z % 256) labels u.was nf
            (subst (λ m. InGammaZero gamma naming state.memory f (array_bytes zeros (bytes_at state.memory m))) k a) w.0 w.1 (omega arith) (place_inside u zeros inside) (array_small zeros i)
            (may_be_zero q c flow kind char z labels x st) (may_be_other q c flow kind char z labels x st))))
      ]
    ]
      where
        not_sure : (p w : Bool) → (p ≡ true → w ≡ true → ⊥) → (p && w) ≡ false
        not_sure true true n = absurd (n refl refl)
        not_sure true false n = refl
        not_sure false w n = refl

        stays : (j ≡ i → IsIn zeros.size zeros.offset offset → ⊥) → (alone && target.whole) ≡ false → InGammaZero gamma naming new (put_at l n f target (zero_of_write l n flow.model write) alone) (array_bytes zeros (bytes_at new j))
        stays ne k = subst (InGammaZero gamma naming new (put_at l n f target (zero_of_write l n flow.model write) alone)) (sym (array_kept u zeros j ne)) (put_outside o q f target (zero_of_write l n flow.model write) alone _ k a)

        outside : (j ≡ i → ⊥) → InGammaZero gamma naming new (put_at l n f target (zero_of_write l n flow.model write) alone) (array_bytes zeros (bytes_at new j))
        outside ne = stays (λ k w. ne k) (not_sure alone target.whole (λ p w. ne (same_instance d other e h p j g)))

        outside_in : j ≡ i → (IsIn zeros.size zeros.offset offset → ⊥) → InGammaZero gamma naming new (put_at l n f target (zero_of_write l n flow.model write) alone) (array_bytes zeros (bytes_at new j))
        outside_in k out = stays (λ w y. out y) (not_sure alone target.whole (λ p w. out (whole_in zeros window target offset t w from to)))

    near_zero : (f : FirstZero I) (bytes : List Byte) → length bytes ≤ 2 ^ 64 - 1 → InGammaZero gamma naming new f bytes → InGammaZero gamma naming new (record { at = near_number l n f.at }) bytes
    near_zero f bytes small h =
        let a = offset_near (first_zero bytes) (λ k e. let w = zero_small bytes k e in omega arith) in
        near_stands o q f.at (zero_offset (first_zero bytes)) (omega (arith, ints)) (omega (arith, ints)) h

    zero_target_stands : (d j y : ℕ) (other : BaseInfo) (zeros : ZeroPart) (target : Option ZeroTarget) → zero_target zeros window ≡ target → slice_get flow.bases.items d ≡ Some other → slice_get other.shape.zeros y ≡ Some zeros → has_base set_of d ≡ true → IsLiveOf naming state.memory d j → InGammaZero gamma naming new (zero_put l n target (zero_of_write l n flow.model write) alone (zero_at l n row (zero_position other y))) (array_bytes zeros (bytes_at new j))
    zero_target_stands d j y other zeros None t e f h g =
        subst (InGammaZero gamma naming new (zero_at l n row (zero_position other y))) (sym (array_kept u zeros j (λ k inside. target_there zeros window offset inside from to offset_small t))) (s.zeros d y j other zeros e f g)
    zero_target_stands d j y other zeros (Some target) t e f h g =
        let a = s.zeros d y j other zeros e f g in
        let m = met_zero d j other zeros (zero_at l n row (zero_position other y)) target e h g (zero_near q row (zero_position other y)) (target_is zeros window target t) a in
        near_zero (put_at l n (zero_at l n row (zero_position other y)) target (zero_of_write l n flow.model write) alone) (array_bytes zeros (bytes_at new j)) (new_small zeros j) m
      where
        new_small : (zeros : ZeroPart) (j : ℕ) → length (array_bytes zeros (bytes_at new j)) ≤ 2 ^ 64 - 1
        new_small zeros j = let a = s.sane.small j in let k = u.refill.alike.lengths j in by_size zeros.size (bytes_at new j) zeros.offset (omega arith)
          where
            by_size : (size : Option ℕ) (bytes : List Byte) (start : ℕ) → length bytes ≤ 2 ^ 64 - 1 → length (array_of size (drop start bytes)) ≤ 2 ^ 64 - 1
            by_size None bytes start h = let e = length-drop start bytes in omega arith
            by_size (Some size) bytes start h = let e = length-drop start bytes in let f = length-take size (drop start bytes) in omega arith

    zero_stands : (d y j : ℕ) (other : BaseInfo) (zeros : ZeroPart) → slice_get flow.bases.items d ≡ Some other → slice_get other.shape.zeros y ≡ Some zeros → IsLiveOf naming new d j → InGammaZero gamma naming new (zero_at l n after (zero_position other y)) (array_bytes zeros (bytes_at new j))
    zero_stands d y j other zeros e f h =
        let g = live_moves u.refill.alike naming d j h in
        let v : FirstZero I = zero_at l n row (zero_position other y) in
        let is = zero_value l n flow.model flow.bases.items behind laid set_of write (class_small (class_of kind)) is_char_write d other y zeros e f row (zero_in_row d y other zeros e f) in
        elim (cases_Bool (has_base set_of d)) [
          | inl hit ↦ subst (λ w. InGammaZero gamma naming new w (array_bytes zeros (bytes_at new j))) (sym (is ∙ cond_yes (has_base set_of d) _ v hit)) (zero_target_stands d j y other zeros (zero_target zeros window) refl e f hit g)
          | inr miss ↦ (let ne : j ≡ i → ⊥ = λ k. true≢false (sym has ∙ (ap (has_base set_of) (same_Some b d (sym named ∙ (ap naming (sym k) ∙ g.named))) ∙ miss)) in
              subst (λ w. InGammaZero gamma naming new w (array_bytes zeros (bytes_at new j))) (sym (is ∙ cond_no (has_base set_of d) _ v miss))
              (subst (InGammaZero gamma naming new v) (sym (array_kept u zeros j (λ k w. ne k))) (s.zeros d y j other zeros e f g)))
        ]
      where
        cond_yes : (p : Bool) (x y : FirstZero I) → p ≡ true → cond p x y ≡ x
        cond_yes true x y e = refl
        cond_yes false x y e = cc

        cond_no : (p : Bool) (x y : FirstZero I) → p ≡ false → cond p x y ≡ y
        cond_no true x y e = cc
        cond_no false x y e = refl

    state_by : (y : AllocState I) (life : Life) (size : ℕ) → InGammaState gamma naming state.memory y life size → InGammaState gamma naming new y life size
    state_by y live size h = h
    state_by y ended size h = h
    state_by y freed size h = h

    state_stands : (d j : ℕ) (other : BaseInfo) → slice_get flow.bases.items d ≡ Some other → other.shape.heap ≡ true → naming j ≡ Some d → InGammaState gamma naming new (state_at l n after (state_position other)) (life_at new j) (length (bytes_at new j))
    state_stands d j other e heap h =
        let k = same_state l n row after (state_position other) (state_after l n flow.model flow.bases.items behind laid set_of write (class_small (class_of kind)) is_char_write d other e heap row) in
        subst (λ y. InGammaState gamma naming new y (life_at new j) (length (bytes_at new j))) (sym k)
        (subst (λ y. InGammaState gamma naming new (state_at l n row (state_position other)) (life_at new j) y) (sym (u.refill.alike.lengths j))
        (subst (λ y. InGammaState gamma naming new (state_at l n row (state_position other)) y (length (bytes_at state.memory j))) (sym (u.refill.alike.lives j)) (state_by (state_at l n row (state_position other)) (life_at state.memory j) (length (bytes_at state.memory j)) (s.states d j other e heap h))))

    temp_stands : (t : ℕ) (scalar : Scalar) → state.temps t ≡ Some scalar → InGammaScalar gamma naming new (temp_value l n flow after t) scalar
    temp_stands t scalar e =
        let small = laid.small in
        let p : behind ≤ temp_position flow t = omega arith in
        let k = same_value l n row after (temp_position flow t) ((behind_keeps l n flow.model flow.bases.items behind laid set_of write (class_small (class_of kind)) is_char_write (temp_position flow t) p).keeps row) in
        subst (λ y. InGammaScalar gamma naming new y scalar) (sym k) (scalar_moves u.refill.alike gamma naming (temp_value l n flow row t) scalar (s.temps t scalar e))

    pub all_stand : InGamma l n gamma flow naming after (record { memory = new; temps = state.temps; entered = state.entered })
    all_stand = record {
      sane = sane_new;
      held = record {
        within = λ t scalar e. scalar_in_moves u.refill.alike scalar (s.held.within t scalar e);
        named = λ t p e. named_moves naming state.memory new u.refill.alike.lives p (s.held.named t p e);
      };
      lives = record { sole = λ d j base e a m h. s.lives.sole d j base e a m (λ f. h (u.refill.alike.lives j ∙ f)); alive = λ d j e. u.refill.alike.lives j ∙ s.lives.alive d j e; named = s.lives.named; objects = s.lives.objects };
      leaves = λ d j other leaf e f. leaf_stands o q c r flow shaped behind laid naming row long state s kind char z labels x near st labelled u sane_new b base at named alive window from to set_of has alone only d j other leaf e f;
      classes = λ d cn other e heap h. class_stands o q c r flow shaped behind laid naming row long state s kind char z labels x near st labelled u sane_new b base at named alive window from to set_of has alone only d cn other e heap h;
      zeros = λ d y j other zeros e f h. zero_stands d y j other zeros e f h;
      states = λ d j other e heap h. state_stands d j other e heap h;
      temps = temp_stands;
    }

  -- ---- the machine's store

  number_stood : (x : Value I) (v : Scalar) (z : ℤ) (labels : Labels) → v ≡ integer z labels → InGammaScalar gamma naming state.memory x v → gamma x.num z × (labels_leq (as_set labels) x.labels ≡ true)
  number_stood x v z labels e h = subst (InGammaScalar gamma naming state.memory x) e h

  pub char_store_stands : (kind : IntType) (p : Pointers I) (at : MachinePointer) (x : Value I) (v t : Scalar) (w u : World) → w.memory ≡ state.memory → same_class (class_of kind) Char ≡ true → InGammaPointer gamma naming state.memory p at → IsPointerIn state.memory at → InGammaScalar gamma naming state.memory x v → IsNearValue l n x → store flow.model (of.Int kind) (pointer at) v w ≡ goes t u → Gives (λ after. InGamma l n gamma flow naming after (record { memory = u.memory; temps = state.temps; entered = state.entered })) (abstract_store l n flow.model flow.bases.items p (class_of kind) kind.signed x row)
  unfolding abstract_store store_access can_store
  char_store_stands kind p at x v t w u same char st inside stv near h =
      let class : Class = class_of kind in
      let is_char : class ≡ Char = same_class_is class Char char in
      let one : class_bytes flow.model class ≡ 1 = ap (class_bytes flow.model) is_char in
      let both = byte_goes flow.model (of.Int kind) at v t w u char (subst (λ z. IsPointerIn z at) (sym same) inside) h in
      let of_kind : IsOfKind (of.Int kind) v = both.0 in
      let sb = both.1 in
      let g = sb.stored in
      let i : ℕ = g.i in
      let offset : ℕ = g.offset in
      let alive : life_at state.memory i ≡ live = subst (λ z. life_at z i ≡ live) same g.alive in
      let sto : IsByteStore state.memory u.memory i offset (byte_of sb.z sb.labels) = subst (λ z. IsByteStore z u.memory i offset (byte_of sb.z sb.labels)) same g.store in
      let num = number_stood x v sb.z sb.labels sb.is stv in
      let y = into_live o q c r flow shaped texts behind laid temporaries naming row long state s p i offset g.lo g.hi alive (subst (InGammaPointer gamma naming state.memory p) g.pointer st) in
      let ins : IsWithin state.memory i offset g.lo g.hi = subst (IsPointerIn state.memory) g.pointer inside in
      let d = ins.within in
      let m = s.sane.small i in
      let below = g.below in
      let z = window_has q p (class_bytes flow.model class) offset g.lo g.hi y.lower y.relative y.room g.above (omega arith) (omega arith) in
      let base = get_there flow.bases.items y.base (s.sane.few i y.base y.named) in
      let it = instance_there state.memory i alive in
      let k : IsInstanceOf flow.model base.0 it.0 = s.sane.instances i y.base base.0 it.0 y.named base.1 it.1 in
      let lit : is_literal (storage_for base.0.kind) ≡ false = ap is_literal (sym k.storage) ∙ (ap (λ a. is_literal (storage_of a)) (sym it.1) ∙ subst (λ a. is_literal (storage_at a i) ≡ false) same g.plain) in
      let few = shaped.few in
      let top = slice_get_within flow.bases.items y.base base.0 base.1 in
      let is_live : is_live_in l n row p.bases base.0 y.base ≡ true = and_from _ _ (and_from _ _ (lt-ltb _ _ (omega arith)) y.among) (live_here o q c r flow shaped texts behind laid temporaries naming row long state s y.base i base.0 base.1 y.named alive) in
      let set_of : Bases = reached_of l n flow.bases.items row p.bases in
      let has : has_base set_of y.base ≡ true = in_reached l n flow.bases.items shaped.few row p.bases y.base base.0 base.1 is_live (not_literal o q c r flow shaped texts behind laid temporaries naming row long state s base.0.kind lit) in
      let access : Access = record { class = class; signed = kind.signed; window = z.window } in
      let len : base.0.shape.heap ≡ false → offset < base.0.size = λ e. let f : length (bytes_at state.memory i) ≡ base.0.size = ap (λ a. length (bytes_of a)) it.1 ∙ k.size e in omega arith in
      let here = char_place flow shaped padding y.base base.0 base.1 access is_char offset z.from z.to base.0.shape.heap refl len in
      let place : any_place flow.model flow.bases.items set_of access ≡ true = char_any_place flow shaped padding y.base base.0 base.1 access is_char offset z.from z.to set_of has here in
      let some : is_nothing n class x ≡ false = is_something q naming state.memory (of.Int kind) v x of_kind stv in
      let alone : Bool = is_one_instance flow.bases.items set_of in
      let row_stands = all_stand kind is_char sb.z sb.labels x near num.0 num.1 sto y.base base.0 base.1 y.named alive z.window z.from z.to set_of has alone (alone_is o q c r flow shaped texts behind laid temporaries naming row long state s set_of y.base has) in
      rw z.is (rw (some, place) (record { value = _; is = refl; good = row_stands }))

  pub any_char_store : (kind : declared.Scalar) (p : Pointers I) (at : MachinePointer) (x : Value I) (v t : Scalar) (w u : World) → w.memory ≡ state.memory → same_class (class_in kind) Char ≡ true → InGammaPointer gamma naming state.memory p at → IsPointerIn state.memory at → InGammaScalar gamma naming state.memory x v → IsNearValue l n x → store flow.model kind (pointer at) v w ≡ goes t u → Gives (λ after. InGamma l n gamma flow naming after (record { memory = u.memory; temps = state.temps; entered = state.entered })) (abstract_store l n flow.model flow.bases.items p (class_in kind) (signed_in kind) x row)
  any_char_store (of.Int kind) p at x v t w u same char st inside stv near h = char_store_stands kind p at x v t w u same char st inside stv near h
  any_char_store of.Pointer p at x v t w u same char st inside stv near h = cc
