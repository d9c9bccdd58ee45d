-- The touch of a part of what a pointer points to.
use Rattle.std.proofs.Common.{◌≡◌, ℕ, ◌+◌, ◌≤◌, true, false, ◌&&◌, Some, None, List, length, arith, subst, refl}
use Rattle.std.specs.Prelude.{slice_get, ℤ, pos, ◌+ℤ◌, ◌-ℤ◌, ◌≤ℤ◌, nat_le, nat_lt}
use Rattle.std.proofs.lemmas.Int.{ints}
use Rattle.std.proofs.lemmas.Bool.{and_from, and_parts, or_right, lt-ltb}
use Rattle.std.proofs.lemmas.Option.{slice_get_within}
use Rattle.cc_base.specs.Lattices.{LatticeOf, OrderLaws}
use Rattle.cc_base.specs.IntegerDomains.{IntegersOf, BoundLaws}
use Rattle.cc_base.specs.NumberRanges.{Range, range_sum}
use Rattle.c_layout.specs.declared.shapes.BaseInfo.{BaseInfo}
use Rattle.cfg.specs.declared.programs.Flow.{Flow}
use Rattle.pointer_domain.specs.declared.base_sets.Bases.{Bases}
use Rattle.pointer_domain.specs.declared.pointer_sets.Pointers.{Pointers}
use Rattle.pointer_domain.specs.BaseSets.{bases_has}
use Rattle.pointer_domain.specs.PointerTables.{length_above}
use Rattle.value_domain.specs.declared.values.row_cells.Cell.{Cell}
use Rattle.store_cells.specs.RowPositions.{state_at, state_position}
use Rattle.store_objects.specs.LiveBases.{most_bases, may_be_live, is_live_in, live_of}
use Rattle.transfer_checks.specs.Touches.{leaves_bounds_at, span_of, is_nowhere, places_within, touch_violations, touch}
use Rattle.memory_model.specs.Memory.Instances.{live, bytes_at, life_at}
use Rattle.store_sound.specs.Concretization.ValueMeaning.{Naming, InGammaInto, InGammaState}
use Rattle.store_sound.specs.Concretization.SoundMemory.{IsWithin}
use Rattle.store_sound.specs.Concretization.RowMeaning.{MachineState, InGamma}
use Rattle.store_sound.specs.Operations.Shapes.{AreShaped}
use Rattle.store_sound.proofs.operations.Slices.{get_there}
use Rattle.store_sound.proofs.operations.Windows.{RangeHas, met_has}
use Rattle.store_sound.proofs.operations.LoadSound.{live_if}
use Rattle.store_sound.proofs.operations.Sets.{in_live}
use Rattle.store_sound.proofs.operations.StorePlaces.{not_empty}
use Rattle.store_sound.proofs.operations.TouchSound.{range_stands, bounds_have, bounded, room_above, or_none, past_end, lt_true}
use Rattle.transfer_sound.proofs.values.NearScalars.{near_offset, near_distance, near_number_stands}

-- places that end behind all room may lie behind it
past_bounds : (x y : Range) (from size : ℕ) (z room : ℤ) → RangeHas x z → RangeHas y room → ((room +ℤ pos 1) ≤ℤ (z +ℤ pos (from + size))) → leaves_bounds_at (range_sum x (span_of from size)) y ≡ true
past_bounds None y from size z room h k e = let f = h.is in cc
past_bounds (Some p) None from size z room h k e = let f = k.is in cc
past_bounds (Some p) (Some r) from size z room h k e =
    let a : p.1 ≡ h.high = cc h.is in
    let b : r.0 ≡ k.low = cc k.is in
    let c = h.to in
    let d = k.from in
    or_right _ _ (lt_true r.0 (p.1 +ℤ pos (from + size)) (omega (arith, ints, a, b, c, d, e)))

module _ {I : Type 0} {l : LatticeOf I} {n : IntegersOf I} {gamma : I → ℤ → Type 0} (o : OrderLaws l) (q : BoundLaws l n gamma) (flow : Flow) (shaped : AreShaped flow.bases.items) (naming : Naming) (row : List (Cell I)) (state : MachineState) (s : InGamma l n gamma flow naming row state) (p : Pointers I) (from size : ℕ) (i offset lo hi : ℕ) (alive : life_at state.memory i ≡ live) (st : InGammaInto gamma naming state.memory p i offset lo hi) (inside : IsWithin state.memory i offset lo hi) where
  abbrev live_set : Bases
  live_set = live_of l n flow.bases.items row p.bases

  live_there : (base : BaseInfo) → slice_get flow.bases.items st.base ≡ Some base → is_live_in l n row p.bases base st.base ≡ true
  live_there base e =
      let few = shaped.few in
      let top = slice_get_within flow.bases.items st.base base e in
      let may : may_be_live l n base row ≡ true = live_if base.shape.heap _ (λ h.
      let y = s.states st.base i base e h st.named in
      (subst (λ z. InGammaState gamma naming state.memory (state_at l n row (state_position base)) z (length (bytes_at state.memory i))) alive y).1) in
      and_from _ _ (and_from _ _ (lt-ltb _ _ (omega (arith, few, top))) st.among) may

  -- the base is among those that may be live
  in_set : bases_has live_set st.base ≡ true
  in_set = let base = get_there flow.bases.items st.base (s.sane.few i st.base st.named) in
      (and_parts (nat_lt st.base most_bases) (bases_has live_set st.base) (in_live l n flow.bases.items shaped.few row p.bases st.base base.0 base.1 (live_there base.0 base.1))).1

  pub outside_told : (nat_le lo (offset + from) && nat_le ((offset + from) + size) hi) ≡ false → (touch l n flow.bases.items row p from size false).violations.invptr ≡ true
  unfolding touch touch_violations
  outside_told e =
      let a = inside.above in
      let b = past_end lo (offset + from) ((offset + from) + size) hi e (omega (arith, a)) in
      let c = inside.below in
      and_from _ _ (rw (not_empty live_set st.base in_set) refl) (past_bounds (n.bounds p.rel) (n.bounds p.len) from size (pos offset -ℤ pos lo) (pos hi -ℤ pos lo) (bounds_have o q p.rel _ st.relative) (bounds_have o q p.len _ st.room) (omega (arith, ints, a, b, c)))

  module _ (below : (offset + from) + size ≤ hi) where
    place_stands : gamma (places_within l n p from size) (pos offset -ℤ pos lo)
    place_stands =
        let z : ℤ = pos offset -ℤ pos lo in
        let a = inside.above in
        let c = room_above o q p (pos hi -ℤ pos lo) st.room in
        range_stands o q _ z (met_has (n.bounds p.rel) (pos 0) ((length_above n p -ℤ pos from) -ℤ pos size) z (bounds_have o q p.rel z st.relative) (omega (arith, ints, a)) (omega (arith, ints, a, c, below)))

    somewhere : is_nowhere n live_set (places_within l n p from size) ≡ false
    somewhere = or_none _ _ (not_empty live_set st.base in_set) (bounded o q (places_within l n p from size) (pos offset -ℤ pos lo) place_stands)

    -- what goes on stands for the pointer
    pub part_into : InGammaInto gamma naming state.memory (touch l n flow.bases.items row p from size false).rest i offset lo hi
    unfolding touch
    part_into =
        let a = somewhere in
        let small = s.sane.small i in
        let top = inside.within in
        let above = inside.above in
        let under = inside.below in
        let bytes : ℕ = length (bytes_at state.memory i) in
        rw a (rw a (record {
          base = st.base;
          named = st.named;
          among = in_set;
          lower = near_number_stands q p.lo (pos lo) (near_offset lo bytes (omega (arith, top, above, under)) small) st.lower;
          relative = near_number_stands q (places_within l n p from size) (pos offset -ℤ pos lo) (near_distance lo offset bytes above (omega (arith, top, under)) small) place_stands;
          room = near_number_stands q p.len (pos hi -ℤ pos lo) (near_distance lo hi bytes (omega (arith, above, under)) top small) st.room;
          whole = st.whole;
        }))
