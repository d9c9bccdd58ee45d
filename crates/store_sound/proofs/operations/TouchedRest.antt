-- The pointers that go on behind a touch stand for the machine's.
use Rattle.std.proofs.Common.{◌≡◌, ℕ, ◌+◌, ◌≤◌, Bool, true, false, ◌&&◌, Option, Some, List, length, arith, subst, sym, refl, ap, ◌∙◌, inl, inr}
use Rattle.std.specs.Prelude.{slice_get, ℤ, pos, neg_ℤ, ◌-ℤ◌, ◌≤ℤ◌, ◌^◌, nat_lt}
use Rattle.std.proofs.lemmas.Int.{ints}
use Rattle.std.proofs.lemmas.Bool.{cases_Bool, and_from, and_parts, lt-ltb}
use Rattle.std.proofs.lemmas.Option.{slice_get_within}
use Rattle.cc_base.specs.Lattices.{LatticeOf, OrderLaws}
use Rattle.cc_base.specs.IntegerDomains.{IntegersOf, BoundLaws}
use Rattle.cc_base.specs.NumberRanges.{range_met}
use Rattle.c_layout.specs.declared.shapes.BaseInfo.{BaseInfo}
use Rattle.c_layout.specs.declared.shapes.BaseKind.{BaseKind}
use Rattle.c_layout.specs.declared.shapes.BaseKind.TheVariants.{Static, Automatic, Literal, Newest, Older}
use Rattle.cfg.specs.declared.programs.Flow.{Flow}
use Rattle.pointer_domain.specs.declared.base_sets.Bases.{Bases}
use Rattle.pointer_domain.specs.declared.pointer_sets.Pointers.{Pointers}
use Rattle.pointer_domain.specs.BaseSets.{bases_has}
use Rattle.pointer_domain.specs.PointerTables.{length_above}
use Rattle.value_domain.specs.declared.values.row_cells.Cell.{Cell}
use Rattle.store_cells.specs.NearValues.{is_near, near_number}
use Rattle.store_objects.specs.LiveBases.{most_bases, is_live_in, live_of, is_literal_kind, may_be_live}
use Rattle.transfer_checks.specs.Touches.{is_nowhere, places_within, kept_of, touch}
use Rattle.memory_model.specs.Memory.Bytes.{MachinePointer}
use Rattle.memory_model.specs.Memory.Instances.{live, bytes_at, life_at}
use Rattle.memory_model.specs.Memory.Scalars.{Scalar}
use Rattle.memory_model.specs.Effects.Worlds.{World, goes}
use Rattle.memory_model.specs.Effects.Touches.{Spot, touched, is_literal, storage_of, storage_at}
use Rattle.store_sound.specs.Concretization.ValueMeaning.{Naming, InGammaInto, InGammaByLife, InGammaPointer, InGammaState}
use Rattle.store_sound.specs.Concretization.SoundMemory.{IsWithin, IsPointerIn, IsInstanceOf, storage_for}
use Rattle.store_sound.specs.Concretization.RowMeaning.{InGamma}
use Rattle.store_cells.specs.RowPositions.{state_at, state_position}
use Rattle.store_sound.specs.Operations.Shapes.{AreShaped}
use Rattle.store_sound.specs.Operations.Statements.{state_in}
use Rattle.store_sound.proofs.operations.Slices.{get_there}
use Rattle.store_sound.proofs.operations.Windows.{met_has}
use Rattle.store_sound.proofs.operations.Reading.{touched_goes}
use Rattle.store_sound.proofs.operations.LoadSound.{instance_there, live_if}
use Rattle.store_sound.proofs.operations.Sets.{in_live, in_reached}
use Rattle.store_sound.proofs.operations.StorePlaces.{not_empty}
use Rattle.store_sound.proofs.operations.TouchSound.{range_stands, bounds_have, bounded, room_above, or_none}

not_literal : (kind : BaseKind) → is_literal (storage_for kind) ≡ false → is_literal_kind kind ≡ false
not_literal Static h = refl
not_literal Automatic h = refl
not_literal Literal h = cc
not_literal Newest h = refl
not_literal Older h = refl

second_false : (a b : Bool) → a ≡ true → (a && b) ≡ false → b ≡ false
second_false true b e h = h
second_false false b e h = cc

module _ {I : Type 0} {l : LatticeOf I} {n : IntegersOf I} {gamma : I → ℤ → Type 0} (o : OrderLaws l) (q : BoundLaws l n gamma) where
  -- what is near is left
  pub near_stands : (x : I) (z : ℤ) → neg_ℤ (pos (2 ^ 64)) ≤ℤ z → z ≤ℤ pos (2 ^ 64) → gamma x z → gamma (near_number l n x) z
  near_stands x z a b h = elim (cases_Bool (is_near (n.bounds x))) [
    | inl e ↦ rw e h
    | inr e ↦ rw e (range_stands o q (range_met (n.bounds x) (neg_ℤ (pos (2 ^ 64))) (pos (2 ^ 64))) z (met_has (n.bounds x) (neg_ℤ (pos (2 ^ 64))) (pos (2 ^ 64)) z (bounds_have o q x z h) a b))
  ]

module _ {I : Type 0} {l : LatticeOf I} {n : IntegersOf I} {gamma : I → ℤ → Type 0} (o : OrderLaws l) (q : BoundLaws l n gamma) (flow : Flow) (shaped : AreShaped flow.bases.items) (naming : Naming) (row : List (Cell I)) (w : World) (temps : ℕ → Option Scalar) (entered : ℕ → Option ℕ) (s : InGamma l n gamma flow naming row (state_in w temps entered)) (p : Pointers I) (size : ℕ) (writes : Bool) where
  abbrev live_set : Bases
  live_set = live_of l n flow.bases.items row p.bases

  module _ (i offset lo hi : ℕ) (alive : life_at w.memory i ≡ live) (st : InGammaInto gamma naming w.memory p i offset lo hi) (inside : IsWithin w.memory i offset lo hi) (below : offset + size ≤ hi) (plain : (writes && is_literal (storage_at w.memory i)) ≡ false) where
    live_there : (base : BaseInfo) → slice_get flow.bases.items st.base ≡ Some base → is_live_in l n row p.bases base st.base ≡ true
    live_there base e =
        let few = shaped.few in
        let top = slice_get_within flow.bases.items st.base base e in
        let may : may_be_live l n base row ≡ true = live_if base.shape.heap _ (λ h.
        let y = s.states st.base i base e h st.named in
        (subst (λ z. InGammaState gamma naming w.memory (state_at l n row (state_position base)) z (length (bytes_at w.memory i))) alive y).1) in
        and_from _ _ (and_from _ _ (lt-ltb _ _ (omega arith)) st.among) may

    in_set : (base : BaseInfo) → slice_get flow.bases.items st.base ≡ Some base → bases_has live_set st.base ≡ true
    in_set base e = (and_parts (nat_lt st.base most_bases) (bases_has live_set st.base) (in_live l n flow.bases.items shaped.few row p.bases st.base base e (live_there base e))).1

    in_kept : (base : BaseInfo) → slice_get flow.bases.items st.base ≡ Some base → (b : Bool) → writes ≡ b → bases_has (kept_of flow.bases.items b live_set) st.base ≡ true
    in_kept base e false f = in_set base e
    in_kept base e true f =
        let it = instance_there w.memory i alive in
        let k : IsInstanceOf flow.model base it.0 = s.sane.instances i st.base base it.0 st.named e it.1 in
        let lit : is_literal (storage_for base.kind) ≡ false = ap is_literal (sym k.storage) ∙ (ap (λ a. is_literal (storage_of a)) (sym it.1) ∙ second_false writes (is_literal (storage_at w.memory i)) f plain) in
        (and_parts (nat_lt st.base most_bases) (bases_has (kept_of flow.bases.items true live_set) st.base) (in_reached l n flow.bases.items shaped.few row p.bases st.base base e (live_there base e) (not_literal base.kind lit))).1

    place_stands : gamma (places_within l n p 0 size) (pos offset -ℤ pos lo)
    place_stands =
        let z : ℤ = pos offset -ℤ pos lo in
        let a = inside.above in
        let c = room_above o q p (pos hi -ℤ pos lo) st.room in
        range_stands o q _ z (met_has (n.bounds p.rel) (pos 0) ((length_above n p -ℤ pos 0) -ℤ pos size) z (bounds_have o q p.rel z st.relative) (omega (arith, ints)) (omega (arith, ints)))

    somewhere : (set : Bases) → bases_has set st.base ≡ true → is_nowhere n set (places_within l n p 0 size) ≡ false
    somewhere set h = or_none _ _ (not_empty set st.base h) (bounded o q (places_within l n p 0 size) (pos offset -ℤ pos lo) place_stands)

    rest_into : InGammaInto gamma naming w.memory (touch l n flow.bases.items row p 0 size writes).rest i offset lo hi
    unfolding touch
    rest_into =
        let base = get_there flow.bases.items st.base (s.sane.few i st.base st.named) in
        let a = somewhere live_set (in_set base.0 base.1) in
        let has = in_kept base.0 base.1 writes refl in
        let b = somewhere (kept_of flow.bases.items writes live_set) has in
        let small = s.sane.small i in
        let top = inside.within in
        let above = inside.above in
        let under = inside.below in
        rw (a, b) (record {
          base = st.base;
          named = st.named;
          among = has;
          lower = near_stands o q p.lo (pos lo) (omega (arith, ints)) (omega (arith, ints)) st.lower;
          relative = near_stands o q (places_within l n p 0 size) (pos offset -ℤ pos lo) (omega (arith, ints)) (omega (arith, ints)) place_stands;
          room = near_stands o q p.len (pos hi -ℤ pos lo) (omega (arith, ints)) (omega (arith, ints)) st.room;
          whole = st.whole;
        })

  pub touch_stands : (at : MachinePointer) (spot : Spot) (u : World) → InGammaPointer gamma naming w.memory p at → IsPointerIn w.memory at → touched w at size writes ≡ goes spot u → InGammaPointer gamma naming w.memory (touch l n flow.bases.items row p 0 size writes).rest at
  touch_stands at spot u st inside h =
      let t = touched_goes w at size writes spot u h in
      let ins : IsWithin w.memory spot.instance spot.offset t.lo t.hi = subst (IsPointerIn w.memory) t.pointer inside in
      let y : InGammaByLife gamma naming w.memory p (life_at w.memory spot.instance) spot.instance spot.offset t.lo t.hi = subst (InGammaPointer gamma naming w.memory p) t.pointer st in
      let z : InGammaInto gamma naming w.memory p spot.instance spot.offset t.lo t.hi = subst (λ k. InGammaByLife gamma naming w.memory p k spot.instance spot.offset t.lo t.hi) t.alive y in
      subst (InGammaPointer gamma naming w.memory (touch l n flow.bases.items row p 0 size writes).rest) (sym t.pointer)
      (subst (λ k. InGammaByLife gamma naming w.memory (touch l n flow.bases.items row p 0 size writes).rest k spot.instance spot.offset t.lo t.hi) (sym t.alive)
      (rest_into spot.instance spot.offset t.lo t.hi t.alive z ins t.below t.plain))
