-- Where the end of a text is not said to be unknown, it is the first zero of an array that has the first byte.
use Rattle.std.proofs.Common.{◌≡◌, ℕ, ◌+◌, ◌-◌, ◌^◌, ◌<◌, ◌≤◌, Bool, true, false, cond, Option, Some, None, List, length, arith, subst, sym, refl, ap, ◌∙◌, inl, inr}
use Rattle.std.specs.Prelude.{slice_get, ℤ, pos, ◌-ℤ◌, ◌≤ℤ◌, ◌<ℤ◌}
use Rattle.std.proofs.lemmas.Int.{ints, clamps}
use Rattle.std.proofs.lemmas.Bool.{and_from, lt-ltb, true≢false}
use Rattle.std.proofs.lemmas.Option.{same_Some, slice_get_within}
use Rattle.cc_base.specs.Lattices.{LatticeOf, OrderLaws}
use Rattle.cc_base.specs.IntegerDomains.{IntegersOf, BoundLaws, of_range}
use Rattle.cc_base.specs.NumberRanges.{Range, range_clamped, range_difference}
use Rattle.c_layout.specs.declared.shapes.BaseInfo.{BaseInfo}
use Rattle.c_layout.specs.declared.shapes.ZeroPart.{ZeroPart}
use Rattle.cfg.specs.declared.programs.Flow.{Flow}
use Rattle.pointer_domain.specs.PointerTables.{rooms}
use Rattle.pointer_domain.specs.declared.pointer_sets.Pointers.{Pointers}
use Rattle.value_domain.specs.Strings.FirstZeros.{the_end}
use Rattle.value_domain.specs.declared.values.row_cells.Cell.{Cell}
use Rattle.store_cells.specs.FirstZeroWrites.{offsets_of, covering_part, last_of}
use Rattle.store_objects.specs.LiveBases.{most_bases, has_base}
use Rattle.store_cells.specs.NearValues.{near_number}
use Rattle.store_cells.specs.RowPositions.{zero_at, zero_position}
use Rattle.store_cells.specs.declared.access_windows.Window.{Window}
use Rattle.transfer_checks.specs.StringScans.{scan_start, length_in, length_at, length_from, known_length, known_or, scan_base, with_base, with_base_if, scan_more, nothing_scanned, scan_bases, scan}
use Rattle.transfer_checks.specs.declared.string_scans.Scanned.{Scanned}
use Rattle.memory_model.specs.Memory.Bytes.{Byte}
use Rattle.memory_model.specs.Memory.Instances.{live, bytes_at, life_at}
use Rattle.memory_model.specs.Effects.LibraryChecks as machine
use Rattle.memory_model.specs.Effects.ScalarBytes.{region, contents}
use Rattle.store_sound.specs.Concretization.FirstZeroBytes.{first_zero, zero_offset}
use Rattle.store_sound.specs.Concretization.SoundMemory.{IsWithin}
use Rattle.store_sound.specs.Concretization.ValueMeaning.{Naming, InGammaInto}
use Rattle.store_sound.specs.Concretization.RowMeaning.{MachineState, InGamma, array_bytes}
use Rattle.store_sound.specs.Operations.Shapes.{AreShaped}
use Rattle.store_sound.proofs.operations.Sets.{if_keeps, if_adds}
use Rattle.store_sound.proofs.operations.Slices.{get_there}
use Rattle.store_sound.proofs.operations.StoreZeros.{zero_small}
use Rattle.store_sound.proofs.operations.Texts.{found_part, offset_is, zero_near}
use Rattle.store_sound.proofs.operations.TouchedRest.{near_stands}
use Rattle.store_sound.proofs.operations.Walks.{walk_meets}
use Rattle.store_sound.proofs.chars.ByteArrays.{IsIn, in_or_not}
use Rattle.store_sound.proofs.chars.ByteZeros.{offsets_stand}
use Rattle.store_sound.proofs.regions.RegionArrays.{array_get}
use Rattle.domain_theorems.specs.Values.ZeroMeaning.{IsString}
use Rattle.domain_theorems.proofs.values.Numbers.{RangeHas, difference_has, bounds_have, of_range_stands}
use Rattle.domain_theorems.proofs.values.ZeroStands.{zero_meaning}
use Rattle.library_sound.proofs.strings.ScannedTexts.{IsFound, array_scanned}
use Rattle.library_sound.proofs.fills.Targets.{start_has}

clamped_has : (x : Range) (a b z : ℤ) → RangeHas x z → a ≤ℤ z → z ≤ℤ b → RangeHas (range_clamped x a b) z
clamped_has None a b z h k m = absurd h
clamped_has (Some p) a b z h k m = let h0 = h.0 in let h1 = h.1 in (omega (arith, ints, clamps), omega (arith, ints, clamps))

last_small : (size : Option ℕ) (start : ℕ) → last_of start size ≤ 2 ^ 64 - 1
last_small None start = omega arith
last_small (Some size) start = omega arith

-- what stands in an array is one of its bytes
stands_in : (part : ZeroPart) (bytes : List Byte) (k : ℕ) (b : Byte) → slice_get (array_bytes part bytes) k ≡ Some b → IsIn part.size part.offset (part.offset + k) × (slice_get bytes (part.offset + k) ≡ Some b)
stands_in part bytes k b e = elim (in_or_not part.size part.offset (part.offset + k)) [
  | inl h ↦ (h, sym ((array_get part.size part.offset bytes k).0 h) ∙ e)
  | inr h ↦ (let g : None ≡ Some b = sym ((array_get part.size part.offset bytes k).1 h) ∙ e in cc)
]

module _ {I : Type 0} {l : LatticeOf I} {n : IntegersOf I} {gamma : I → ℤ → Type 0} (o : OrderLaws l) (q : BoundLaws l n gamma) (flow : Flow) (shaped : AreShaped flow.bases.items) (naming : Naming) (row : List (Cell I)) (state : MachineState) (s : InGamma l n gamma flow naming row state)
    (p : Pointers I) (i offset lo hi : ℕ) (alive : life_at state.memory i ≡ live) (st : InGammaInto gamma naming state.memory p i offset lo hi) (inside : IsWithin state.memory i offset lo hi) where
  abbrev bytes : List Byte
  bytes = bytes_at state.memory i

  abbrev text : machine.Scanned
  text = machine.scanned (contents (region (bytes_at state.memory i) offset (hi - offset)))

  small_instance : length (bytes_at state.memory i) ≤ 2 ^ 64 - 1
  small_instance = s.sane.small i

  room_stands : gamma (near_number l n (of_range l n (rooms n p))) (pos (hi - offset))
  room_stands =
      let a = inside.above in
      let b = inside.below in
      let c = inside.within in
      let d = small_instance in
      let e : ((pos hi -ℤ pos lo) -ℤ (pos offset -ℤ pos lo)) ≡ pos (hi - offset) = omega (arith, ints, a, b) in
      let has : RangeHas (rooms n p) (pos (hi - offset)) = clamped_has (range_difference (n.bounds p.len) (n.bounds p.rel)) (pos 0) the_end (pos (hi - offset))
      (subst (RangeHas (range_difference (n.bounds p.len) (n.bounds p.rel))) e (difference_has (n.bounds p.len) (n.bounds p.rel) (pos hi -ℤ pos lo) (pos offset -ℤ pos lo) (bounds_have q p.len _ st.room) (bounds_have q p.rel _ st.relative)))
      (omega (arith, ints)) (omega (arith, ints, c, d)) in
      near_stands o q (of_range l n (rooms n p)) (pos (hi - offset)) (omega (arith, ints)) (omega (arith, ints, c, d)) (of_range_stands q (rooms n p) (pos (hi - offset)) has)

  -- the array whose first zero ends the text, and what the machine finds: that end, or a part of a pointer before it
  pub record IsKnownText (base : BaseInfo) : Type 0 where
    pub index : ℕ
    pub part : ZeroPart
    pub among : slice_get base.shape.zeros index ≡ Some part
    pub zero : ℕ
    pub is : first_zero (array_bytes part (bytes_at state.memory i)) ≡ Some zero
    pub has : IsIn part.size part.offset (part.offset + zero)
    pub starts : part.offset ≤ offset
    pub before : offset ≤ part.offset + zero
    pub found : IsFound (machine.scanned (contents (region (bytes_at state.memory i) offset (hi - offset)))) (zero - (offset - part.offset))

  in_room : (start z : ℕ) → start ≤ offset → offset - start ≤ z → start + z < length (bytes_at state.memory i) → (b : Bool) → p.part ≡ b → (b ≡ true → pos (z - (offset - start)) <ℤ pos (hi - offset)) → z - (offset - start) < hi - offset
  in_room start z low before in_bytes false d g = let t = st.whole d in let u = t.1 in omega (arith, low, before, in_bytes, u)
  in_room start z low before in_bytes true d g = let t = g refl in omega (arith, ints, t)

  in_part : (base : BaseInfo) → slice_get flow.bases.items st.base ≡ Some base → (r : ℕ × Window) (w : Window) → w.lo ≤ offset → offset ≤ w.hi → covering_part base w ≡ Some r → (x : I) → length_in l n base row p r ≡ Some x → IsKnownText base
  in_part base at r w from to e x known =
      let f = found_part base w r e in
      let part : ZeroPart = f.0 in
      let k = f.2 in
      let lo_is = k.start in
      let hi_is = k.end in
      let low = k.from in
      let far = k.to in
      let last = last_small part.size part.offset in
      let zero = zero_at l n row (zero_position base r.0) in
      let z = s.zeros st.base r.0 i base part at f.1 (record { named = st.named; alive = alive }) in
      let a : ℤ = zero_offset (first_zero (array_bytes part bytes)) in
      let at_k : ℤ = pos (offset - part.offset) in
      let offs = offsets_stand o q r.1 (offset - part.offset) (omega (arith, lo_is, from)) (omega (arith, hi_is, to)) (omega (arith, hi_is, far, last)) in
      let near = zero_near q row (zero_position base r.0) in
      let string : IsString p.part a at_k (pos (hi - offset)) = (zero_meaning o q).found zero (offsets_of l n r.1) (near_number l n (of_range l n (rooms n p))) x p.part a at_k (pos (hi - offset)) near z offs room_stands known in
      let there = string.there in
      let g = offset_is (first_zero (array_bytes part bytes)) (λ (h : a ≡ the_end). omega (arith, ints, h, there)) in
      let is_a : a ≡ pos g.0 = ap zero_offset g.1 in
      let start = string.ends in
      let before : offset - part.offset ≤ g.0 = omega (arith, ints, start, is_a) in
      let array_small = zero_small (array_bytes part bytes) g.0 g.1 in
      let end = get_there (array_bytes part bytes) g.0 array_small in
      let own = stands_in part bytes g.0 end.0 end.1 in
      let in_bytes = slice_get_within bytes (part.offset + g.0) end.0 own.1 in
      let less : g.0 - (offset - part.offset) < hi - offset = in_room part.offset g.0 (omega (arith, low, from)) before in_bytes p.part refl (λ h. let t = string.inside h in omega (arith, ints, t, is_a, before)) in
      record {
        index = r.0;
        part = part;
        among = f.1;
        zero = g.0;
        is = g.1;
        has = own.0;
        starts = omega (arith, low, from);
        before = omega (arith, low, from, before);
        found = array_scanned (array_bytes part bytes) bytes part.offset offset (hi - offset) g.0 (λ j b h. (stands_in part bytes j b h).1) g.1 (omega (arith, low, from)) before less;
      }

  by_part : (base : BaseInfo) → slice_get flow.bases.items st.base ≡ Some base → (w : Window) → w.lo ≤ offset → offset ≤ w.hi → (r : Option (ℕ × Window)) → covering_part base w ≡ r → (x : I) → length_at l n base row p r ≡ Some x → IsKnownText base
  by_part base at w from to None e x h = cc
  by_part base at w from to (Some r) e x h = in_part base at r w from to e x h

  by_start : (base : BaseInfo) → slice_get flow.bases.items st.base ≡ Some base → (w : Option Window) → scan_start n p ≡ w → (x : I) → length_from l n base row p w ≡ Some x → IsKnownText base
  by_start base at None e x h = cc
  by_start base at (Some w) e x h =
      let t = start_has o q flow shaped naming state.memory s.sane p i offset lo hi st inside in
      let same : t.window ≡ w = same_Some t.window w (sym t.is ∙ e) in
      let from : w.lo ≤ offset = subst (λ z. z.lo ≤ offset) same t.from in
      let to : offset ≤ w.hi = subst (λ z. offset ≤ z.hi) same t.to in
      by_part base at w from to (covering_part base w) refl x h

  -- the scan of the base that the pointer points into
  by_length : (base : BaseInfo) → slice_get flow.bases.items st.base ≡ Some base → (x : Option I) → length_from l n base row p (scan_start n p) ≡ x → (known_or l n p x).unknown ≡ false → IsKnownText base
  by_length base at None e h = cc
  by_length base at (Some x) e h = by_start base at (scan_start n p) refl x e

  one_known : (base : BaseInfo) → slice_get flow.bases.items st.base ≡ Some base → (scan_base l n base row p).unknown ≡ false → IsKnownText base
  unfolding scan_base known_length
  one_known base at h = by_length base at (length_from l n base row p (scan_start n p)) refl h

  -- ---- all bases

  kept_in : (wanted : Bool) (number b : ℕ) (base : BaseInfo) (found : Scanned I) → has_base found.unknown b ≡ true → has_base (cond wanted (with_base l n found number (scan_base l n base row p)) found).unknown b ≡ true
  kept_in true number b base found h = if_keeps (scan_base l n base row p).unknown number found.unknown b h
  kept_in false number b base found h = h

  more_keeps : (b : ℕ) (base : BaseInfo) (number : ℕ) (found : Scanned I) → has_base found.unknown b ≡ true → has_base (scan_more l n row p base number found).unknown b ≡ true
  unfolding with_base_if
  more_keeps b base number found h = kept_in (has_base p.bases number) number b base found h

  more_meets : (b : ℕ) (base : BaseInfo) → b < most_bases → has_base p.bases b ≡ true → (scan_base l n base row p).unknown ≡ true → (found : Scanned I) → has_base (scan_more l n row p base b found).unknown b ≡ true
  unfolding with_base_if
  more_meets b base few wanted e found = subst (λ w. has_base (cond w (with_base l n found b (scan_base l n base row p)) found).unknown b ≡ true) (sym wanted) (if_adds (scan_base l n base row p).unknown found.unknown b e few)

  unknown_has : (base : BaseInfo) → slice_get flow.bases.items st.base ≡ Some base → (scan_base l n base row p).unknown ≡ true → has_base (scan l n flow.bases.items row p).unknown st.base ≡ true
  unfolding scan scan_bases
  unknown_has base at e =
      let few = shaped.few in
      let top = slice_get_within flow.bases.items st.base base at in
      let wanted : has_base p.bases st.base ≡ true = and_from _ _ (lt-ltb st.base most_bases (omega (arith, few, top))) st.among in
      walk_meets (λ f. has_base f.unknown st.base ≡ true) (scan_more l n row p) (λ k at f h. more_keeps st.base k at f h) 0 flow.bases.items (nothing_scanned l) st.base st.base base at (omega arith) (λ f. more_meets st.base base (omega (arith, few, top)) wanted e f)

  -- where the end in the pointer's base is not unknown
  pub text_known : (base : BaseInfo) → slice_get flow.bases.items st.base ≡ Some base → has_base (scan l n flow.bases.items row p).unknown st.base ≡ false → IsKnownText base
  text_known base at h = by_unknown (scan_base l n base row p).unknown refl
    where
      by_unknown : (u : Bool) → (scan_base l n base row p).unknown ≡ u → IsKnownText base
      by_unknown true e = absurd (true≢false (sym (unknown_has base at e) ∙ h))
      by_unknown false e = one_known base at e

  not_unended : (base : BaseInfo) → IsKnownText base → text ≡ machine.unended → ⊥
  not_unended base k e = elim k.found [
    | inl h ↦ (let d : machine.ends (k.zero - (offset - k.part.offset)) ≡ machine.unended = sym h ∙ e in cc)
    | inr h ↦ (let d : machine.broken ≡ machine.unended = sym h ∙ e in cc)
  ]

  -- where no end is found, it is unknown in the pointer's base
  pub unended_unknown : machine.scanned (contents (region (bytes_at state.memory i) offset (hi - offset))) ≡ machine.unended → has_base (scan l n flow.bases.items row p).unknown st.base ≡ true
  unended_unknown e = by_has (has_base (scan l n flow.bases.items row p).unknown st.base) refl
    where
      by_has : (u : Bool) → has_base (scan l n flow.bases.items row p).unknown st.base ≡ u → has_base (scan l n flow.bases.items row p).unknown st.base ≡ true
      by_has true h = h
      by_has false h = let base = get_there flow.bases.items st.base (s.sane.few i st.base st.named) in absurd (not_unended base.0 (text_known base.0 base.1 h) e)
