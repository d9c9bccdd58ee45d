-- A scan is sound: where the machine finds an end the length stands for it, and where it finds none the end is unknown.
use Rattle.std.proofs.Common.{◌≡◌, ℕ, ◌+◌, ◌-◌, ◌^◌, ◌<◌, ◌≤◌, Bool, true, false, cond, not, Option, Some, None, List, length, drop, arith, subst, sym, refl, ap, ◌∙◌, inl, inr}
use Rattle.std.specs.Prelude.{slice_get, ℤ, pos, ◌-ℤ◌, ◌+ℤ◌, ◌≤ℤ◌, ◌<ℤ◌, negsuc, unsigned_abs, is_some, nat_lt, int_le}
use Rattle.std.specs.Int.{w128, saturate_signed, int_min, int_max}
use Rattle.std.proofs.lemmas.Int.{ints, clamps}
use Rattle.std.proofs.lemmas.Bool.{cases_lt, cond_both, and_parts, and_from, lt-ltb}
use Rattle.std.proofs.lemmas.List.{length-map, length-take}
use Rattle.std.proofs.lemmas.Option.{same_Some, slice_get_within}
use Rattle.cc_base.specs.Lattices.{LatticeOf, OrderLaws}
use Rattle.cc_base.specs.IntegerDomains.{IntegersOf, BoundLaws, of_range}
use Rattle.cc_base.specs.NumberRanges.{Range, range_clamped, range_difference, range_met, upper_or}
use Rattle.c_layout.specs.declared.shapes.BaseInfo.{BaseInfo}
use Rattle.c_layout.specs.declared.shapes.ZeroPart.{ZeroPart}
use Rattle.cfg.specs.declared.programs.Flow.{Flow}
use Rattle.pointer_domain.specs.BaseSets.{bases_has, bases_empty, bases_union}
use Rattle.pointer_domain.specs.PointerTables.{offsets, rooms}
use Rattle.pointer_domain.specs.declared.base_sets.Bases.{Bases}
use Rattle.pointer_domain.specs.declared.pointer_sets.Pointers.{Pointers}
use Rattle.value_domain.specs.Strings.FirstZeros.{the_end}
use Rattle.value_domain.specs.declared.values.row_cells.Cell.{Cell}
use Rattle.store_cells.specs.AccessWindows.{last_offset, window_between, window_of_range, window_within, LiesInWindow}
use Rattle.store_cells.specs.FirstZeroWrites.{offsets_of, covering_part}
use Rattle.store_objects.specs.LiveBases.{most_bases, has_base, only_base}
use Rattle.store_cells.specs.NearValues.{near_number}
use Rattle.store_cells.specs.RowPositions.{zero_at, zero_position}
use Rattle.store_cells.specs.declared.access_windows.Window.{Window}
use Rattle.transfer_checks.specs.StringScans.{scan_start, last_of_room, unknown_length, length_in, length_at, length_from, known_length, known_or, scan_base, with_base, with_base_if, scan_more, nothing_scanned, scan_bases, scan}
use Rattle.transfer_checks.specs.declared.string_scans.Scanned.{Scanned}
use Rattle.memory_model.specs.Memory.Bytes.{Byte}
use Rattle.memory_model.specs.Memory.Instances.{live, bytes_at, life_at}
use Rattle.memory_model.specs.Effects.LibraryChecks as machine
use Rattle.memory_model.specs.Effects.ScalarBytes.{region, contents}
use Rattle.store_sound.specs.Concretization.FirstZeroBytes.{first_zero, zero_offset}
use Rattle.store_sound.specs.Concretization.SoundMemory.{IsWithin}
use Rattle.store_sound.specs.Concretization.ValueMeaning.{Naming, InGammaInto}
use Rattle.store_sound.specs.Concretization.RowMeaning.{MachineState, InGamma, array_of, array_bytes}
use Rattle.store_sound.specs.Operations.Shapes.{AreShaped}
use Rattle.store_sound.proofs.operations.Sets.{if_keeps, if_adds}
use Rattle.store_sound.proofs.operations.Slices.{get_drop, get_there}
use Rattle.store_sound.proofs.operations.StorePlaces.{not_empty}
use Rattle.store_sound.proofs.operations.StoreZeros.{zero_small, take_by}
use Rattle.store_sound.proofs.operations.Texts.{found_part, offset_is, zero_near}
use Rattle.store_sound.proofs.operations.TouchedRest.{near_stands}
use Rattle.store_sound.proofs.operations.Walks.{walk_meets}
use Rattle.store_sound.proofs.operations.Windows.{WindowHas, within_has}
use Rattle.store_sound.proofs.operations.Windows as windows
use Rattle.store_sound.proofs.operations.TouchSound as sound
use Rattle.store_sound.proofs.chars.ByteZeros.{offsets_stand}
use Rattle.domain_theorems.specs.Values.ZeroMeaning.{IsString}
use Rattle.domain_theorems.proofs.values.Numbers.{RangeHas, difference_has, met_has, bounds_have, of_range_stands, upper_above}
use Rattle.domain_theorems.proofs.values.ZeroStands.{zero_meaning}
use Rattle.library_sound.proofs.strings.GivenPointers.{sum_has}
use Rattle.library_sound.proofs.strings.ScannedTexts.{IsFound, array_scanned, ends_inside}

clamped_has : (x : Range) (a b z : ℤ) → RangeHas x z → a ≤ℤ z → z ≤ℤ b → RangeHas (range_clamped x a b) z
clamped_has None a b z h k m = absurd h
clamped_has (Some p) a b z h k m = let h0 = h.0 in let h1 = h.1 in (omega (arith, ints, clamps), omega (arith, ints, clamps))

sat_above : (x z : ℤ) → z ≤ℤ x → z ≤ℤ pos (2 ^ 127 - 1) → z ≤ℤ saturate_signed w128 x
sat_above (pos k) z h g = omega (arith, ints)
sat_above (negsuc k) z h g = omega (arith, ints)

-- ---- windows and sets

small_abs : (z : ℤ) → z ≤ℤ pos last_offset → pos 0 ≤ℤ z → unsigned_abs z ≤ last_offset
small_abs (pos k) h g = omega (arith, ints)
small_abs (negsuc k) h g = absurd (omega (arith, ints))

small_end : (r : Range) (w : Window) → LiesInWindow r → window_of_range r ≡ Some w → w.hi ≤ last_offset
small_end None w h e = cc
small_end (Some t) w h e =
    let d : window_between (unsigned_abs t.0) (unsigned_abs t.1) ≡ w = same_Some _ w e in
    subst (λ z. z.hi ≤ last_offset) d (small_abs t.1 h.1.1 h.1.0)

met_lies : (r : Range) → LiesInWindow (range_met r (pos 0) (pos last_offset))
met_lies None = tt
met_lies (Some p) = cond_both (int_le (int_max p.0 (pos 0)) (int_min p.1 (pos last_offset))) (Some (int_max p.0 (pos 0), int_min p.1 (pos last_offset))) None LiesInWindow
    (λ e. let h : int_max p.0 (pos 0) ≤ℤ int_min p.1 (pos last_offset) = grind (arith, ints) in ((omega (arith, ints, clamps), omega (arith, ints, clamps)), (omega (arith, ints, clamps), omega (arith, ints, clamps)))) (λ e. tt)

kept_in : (b : Bool) (found : Bases) (number c : ℕ) → has_base found c ≡ true → has_base (cond b (bases_union found (only_base number)) found) c ≡ true
kept_in true found number c h = if_keeps true number found c h
kept_in false found number c h = h

put_in : (b : Bool) (found : Bases) (number : ℕ) → number < most_bases → b ≡ true → has_base (cond b (bases_union found (only_base number)) found) number ≡ true
put_in true found number h e = if_adds true found number refl h
put_in false found number h e = cc

some_base : (found : Bases) (b : ℕ) → has_base found b ≡ true → bases_empty found ≡ false
some_base found b h = not_empty found b (and_parts (nat_lt b most_bases) (bases_has found b) h).1

-- what stands in an array stands in its instance
array_in : (part : ZeroPart) (bytes : List Byte) (j : ℕ) (b : Byte) → slice_get (array_bytes part bytes) j ≡ Some b → slice_get bytes (part.offset + j) ≡ Some b
array_in part bytes j b e = by_size part.size e
  where
    by_size : (size : Option ℕ) → slice_get (array_of size (drop part.offset bytes)) j ≡ Some b → slice_get bytes (part.offset + j) ≡ Some b
    by_size None f = sym (get_drop part.offset bytes j (part.offset + j) refl) ∙ f
    by_size (Some n) f = elim (cases_lt j n) [
      | inl h ↦ sym (get_drop part.offset bytes j (part.offset + j) refl) ∙ (sym ((take_by n (drop part.offset bytes) j).0 h) ∙ f)
      | inr h ↦ (let g : None ≡ Some b = sym ((take_by n (drop part.offset bytes) j).1 h) ∙ f in cc)
    ]

module _ {I : Type 0} {l : LatticeOf I} {n : IntegersOf I} {gamma : I → ℤ → Type 0} (o : OrderLaws l) (q : BoundLaws l n gamma) (flow : Flow) (shaped : AreShaped flow.bases.items) (naming : Naming) (row : List (Cell I)) (state : MachineState) (s : InGamma l n gamma flow naming row state)
    (p : Pointers I) (i offset lo hi : ℕ) (alive : life_at state.memory i ≡ live) (st : InGammaInto gamma naming state.memory p i offset lo hi) (inside : IsWithin state.memory i offset lo hi) where
  abbrev bytes : List Byte
  bytes = bytes_at state.memory i

  abbrev room : ℕ
  room = hi - offset

  abbrev pub found_text : machine.Scanned
  found_text = machine.scanned (contents (region bytes offset room))

  small_instance : length (bytes_at state.memory i) ≤ 2 ^ 64 - 1
  small_instance = s.sane.small i

  room_has : RangeHas (rooms n p) (pos (hi - offset))
  room_has =
      let a = inside.above in
      let b = inside.below in
      let c = inside.within in
      let d = small_instance in
      let e : ((pos hi -ℤ pos lo) -ℤ (pos offset -ℤ pos lo)) ≡ pos (hi - offset) = omega (arith, ints) in
      clamped_has (range_difference (n.bounds p.len) (n.bounds p.rel)) (pos 0) the_end (pos (hi - offset))
      (subst (RangeHas (range_difference (n.bounds p.len) (n.bounds p.rel))) e (difference_has (n.bounds p.len) (n.bounds p.rel) (pos hi -ℤ pos lo) (pos offset -ℤ pos lo) (bounds_have q p.len _ st.room) (bounds_have q p.rel _ st.relative)))
      (omega (arith, ints)) (omega (arith, ints))

  room_stands : gamma (near_number l n (of_range l n (rooms n p))) (pos (hi - offset))
  room_stands =
      let c = inside.within in
      let d = small_instance in
      near_stands o q (of_range l n (rooms n p)) (pos (hi - offset)) (omega (arith, ints)) (omega (arith, ints)) (of_range_stands q (rooms n p) (pos (hi - offset)) room_has)

  region_long : length (contents (region bytes offset room)) ≤ hi - offset
  region_long =
      let a = length-map (region bytes offset room) (λ b. b.content) in
      let b = length-take room (drop offset bytes) in
      omega arith

  -- an end is found within the room
  pub ends_in_room : (m : ℕ) → found_text ≡ machine.ends m → m < hi - offset
  ends_in_room m e = let a = ends_inside (contents (region bytes offset room)) m e in let b = region_long in omega arith

  -- ---- where the end is unknown

  unknown_stands : (m : ℕ) → found_text ≡ machine.ends m → gamma (unknown_length l n p) (pos m)
  unknown_stands m e =
      let a = ends_in_room m e in
      let c = inside.within in
      let d = small_instance in
      let u = upper_above (rooms n p) (pos (hi - offset)) room_has in
      let v : pos m ≤ℤ last_of_room n p = sat_above (upper_or (pos 0) (rooms n p) -ℤ pos 1) (pos m) (omega (arith, ints)) (omega (arith, ints)) in
      near_stands o q _ (pos m) (omega (arith, ints)) (omega (arith, ints))
      (of_range_stands q (range_met (Some (pos 0, last_of_room n p)) (pos 0) (last_of_room n p)) (pos m) (met_has (Some (pos 0, last_of_room n p)) (pos 0) (last_of_room n p) (pos m) (omega (arith, ints), v) (omega (arith, ints)) v))

  -- ---- where it is known

  start_has : WindowHas (scan_start n p) offset
  start_has =
      let b = inside.below in
      let c = inside.within in
      let d = small_instance in
      let g : (pos lo +ℤ (pos offset -ℤ pos lo)) ≡ pos offset = omega (arith, ints) in
      within_has (offsets n p) offset (subst (windows.RangeHas (offsets n p)) g (sum_has (n.bounds p.lo) (n.bounds p.rel) (pos lo) (pos offset -ℤ pos lo) (sound.bounds_have o q p.lo (pos lo) st.lower) (sound.bounds_have o q p.rel (pos offset -ℤ pos lo) st.relative))) (omega arith)

  -- what is known of the text: an end, or a part of a pointer, and its length
  pub record IsKnown (x : I) : Type 0 where
    pub length : ℕ
    pub found : IsFound found_text length
    pub stood : gamma x (pos length)

  in_room : (start z : ℕ) → start ≤ offset → offset - start ≤ z → start + z < length (bytes_at state.memory i) → (b : Bool) → p.part ≡ b → (b ≡ true → pos (z - (offset - start)) <ℤ pos (hi - offset)) → z - (offset - start) < hi - offset
  in_room start z low before in_bytes false d g = let t = st.whole d in let u = t.1 in omega arith
  in_room start z low before in_bytes true d g = let t = g refl in omega (arith, ints)

  in_part : (base : BaseInfo) → slice_get flow.bases.items st.base ≡ Some base → (r : ℕ × Window) (w : Window) → w.lo ≤ offset → offset ≤ w.hi → w.hi ≤ last_offset → covering_part base w ≡ Some r → (x : I) → length_in l n base row p r ≡ Some x → IsKnown x
  in_part base at r w from to fits e x known =
      let f = found_part base w r e in
      let part : ZeroPart = f.0 in
      let k = f.2 in
      let lo_is = k.start in
      let hi_is = k.end in
      let low = k.from in
      let top = inside.within in
      let below = inside.below in
      let above = inside.above in
      let small = small_instance in
      let zero = zero_at l n row (zero_position base r.0) in
      let z = s.zeros st.base r.0 i base part at f.1 (record { named = st.named; alive = alive }) in
      let a : ℤ = zero_offset (first_zero (array_bytes part bytes)) in
      let at_k : ℤ = pos (offset - part.offset) in
      let offs = offsets_stand o q r.1 (offset - part.offset) (omega arith) (omega arith) (omega arith) in
      let near = zero_near q row (zero_position base r.0) in
      let meaning = zero_meaning o q in
      let string : IsString p.part a at_k (pos (hi - offset)) = meaning.found zero (offsets_of l n r.1) (near_number l n (of_range l n (rooms n p))) x p.part a at_k (pos (hi - offset)) near z offs room_stands known in
      let there = string.there in
      let g = offset_is (first_zero (array_bytes part bytes)) (λ (h : a ≡ the_end). omega (arith, ints)) in
      let is_a : a ≡ pos g.0 = ap zero_offset g.1 in
      let start = string.ends in
      let before : offset - part.offset ≤ g.0 = omega (arith, ints) in
      let array_small = zero_small (array_bytes part bytes) g.0 g.1 in
      let last = get_there (array_bytes part bytes) g.0 array_small in
      let in_bytes = slice_get_within bytes (part.offset + g.0) last.0 (array_in part bytes g.0 last.0 last.1) in
      let length_is : (a -ℤ at_k) ≡ pos (g.0 - (offset - part.offset)) = omega (arith, ints) in
      let less : g.0 - (offset - part.offset) < hi - offset = in_room part.offset g.0 (omega arith) before in_bytes p.part refl (λ h. let t = string.inside h in omega (arith, ints)) in
      record {
        length = g.0 - (offset - part.offset);
        found = array_scanned (array_bytes part bytes) bytes part.offset offset room g.0 (λ j b h. array_in part bytes j b h) g.1 (omega arith) before less;
        stood = subst (gamma x) length_is (meaning.length zero (offsets_of l n r.1) (near_number l n (of_range l n (rooms n p))) x p.part a at_k (pos (hi - offset)) near z offs room_stands known (omega (arith, ints)));
      }

  -- the scan of one base
  pub record IsOneScan (found : I) (unknown : Bool) : Type 0 where
    pub ended : (m : ℕ) → found_text ≡ machine.ends m → gamma found (pos m)
    pub open_end : found_text ≡ machine.unended → unknown ≡ true

  found_ends : (x : I) → IsKnown x → (m : ℕ) → found_text ≡ machine.ends m → gamma x (pos m)
  found_ends x k m e = elim k.found [
    | inl h ↦ (let d : machine.ends k.length ≡ machine.ends m = sym h ∙ e in let g : k.length ≡ m = same_end k.length m d in subst (λ z. gamma x (pos z)) g k.stood)
    | inr h ↦ (let d : machine.broken ≡ machine.ends m = sym h ∙ e in cc)
  ]
    where
      end_of : machine.Scanned → ℕ
      end_of (machine.ends k) = k
      end_of machine.unended = 0
      end_of machine.broken = 0

      same_end : (a b : ℕ) → machine.ends a ≡ machine.ends b → a ≡ b
      same_end a b e = ap end_of e

  found_unended : (x : I) → IsKnown x → found_text ≡ machine.unended → ⊥
  found_unended x k e = elim k.found [
    | inl h ↦ (let d : machine.ends k.length ≡ machine.unended = sym h ∙ e in cc)
    | inr h ↦ (let d : machine.broken ≡ machine.unended = sym h ∙ e in cc)
  ]

  by_known : (base : BaseInfo) (x : Option I) → (length : (y : I) → x ≡ Some y → IsKnown y) → IsOneScan (known_or l n p x).length (known_or l n p x).unknown
  by_known base None h = record { ended = λ m e. unknown_stands m e; open_end = λ e. refl }
  by_known base (Some x) h = record { ended = λ m e. found_ends x (h x refl) m e; open_end = λ e. absurd (found_unended x (h x refl) e) }

  known_by : (base : BaseInfo) → slice_get flow.bases.items st.base ≡ Some base → (w : Option Window) → scan_start n p ≡ w → (x : I) → length_from l n base row p w ≡ Some x → IsKnown x
  known_by base at None e x h = cc
  known_by base at (Some w) e x h =
      let t = start_has in
      let same : t.window ≡ w = same_Some t.window w (sym t.is ∙ e) in
      let from : w.lo ≤ offset = subst (λ z. z.lo ≤ offset) same t.from in
      let to : offset ≤ w.hi = subst (λ z. offset ≤ z.hi) same t.to in
      by_part base at w from to (window_small (offsets n p) w e) (covering_part base w) refl x h
    where
      window_small : (r : Range) (w : Window) → window_within r ≡ Some w → w.hi ≤ last_offset
      window_small r w e = small_end (range_met r (pos 0) (pos last_offset)) w (met_lies r) e

      by_part : (base : BaseInfo) → slice_get flow.bases.items st.base ≡ Some base → (w : Window) → w.lo ≤ offset → offset ≤ w.hi → w.hi ≤ last_offset → (r : Option (ℕ × Window)) → covering_part base w ≡ r → (x : I) → length_at l n base row p r ≡ Some x → IsKnown x
      by_part base at w from to fits None e x h = cc
      by_part base at w from to fits (Some r) e x h = in_part base at r w from to fits e x h

  one_stands : (base : BaseInfo) → slice_get flow.bases.items st.base ≡ Some base → IsOneScan (scan_base l n base row p).length (scan_base l n base row p).unknown
  unfolding scan_base known_length
  one_stands base at = by_known base (length_from l n base row p (scan_start n p)) (λ y h. known_by base at (scan_start n p) refl y h)

  -- ---- all bases

  -- what all bases come to has what the one base gives
  record HasOne (b : ℕ) (one : I) (open_end : Bool) (found : Scanned I) : Type 0 where
    length : l.leq one found.length ≡ true
    base : is_some (n.bounds one) ≡ true → has_base found.bases b ≡ true
    unknown : open_end ≡ true → has_base found.unknown b ≡ true

  more_keeps : (b : ℕ) (one : I) (open_end : Bool) (base : BaseInfo) (number : ℕ) (found : Scanned I) → HasOne b one open_end found → HasOne b one open_end (scan_more l n row p base number found)
  unfolding with_base_if
  more_keeps b one open_end base number found h = by_wanted (has_base p.bases number)
    where
      by_wanted : (w : Bool) → HasOne b one open_end (cond w (with_base l n found number (scan_base l n base row p)) found)
      by_wanted true = record {
        length = o.transitive one found.length (l.join found.length (scan_base l n base row p).length) h.length (o.join_left found.length (scan_base l n base row p).length);
        base = λ e. kept_in (is_some (n.bounds (scan_base l n base row p).length)) found.bases number b (h.base e);
        unknown = λ e. kept_in (scan_base l n base row p).unknown found.unknown number b (h.unknown e);
      }
      by_wanted false = h

  more_meets : (b : ℕ) (base : BaseInfo) → b < most_bases → has_base p.bases b ≡ true → (found : Scanned I) → HasOne b (scan_base l n base row p).length (scan_base l n base row p).unknown (scan_more l n row p base b found)
  unfolding with_base_if
  more_meets b base few wanted found = subst (λ w. HasOne b (scan_base l n base row p).length (scan_base l n base row p).unknown (cond w (with_base l n found b (scan_base l n base row p)) found)) (sym wanted) (record {
    length = o.join_right found.length (scan_base l n base row p).length;
    base = λ e. put_in (is_some (n.bounds (scan_base l n base row p).length)) found.bases b few e;
    unknown = λ e. put_in (scan_base l n base row p).unknown found.unknown b few e;
  })

  pub record IsScan (found : Scanned I) : Type 0 where
    pub ended : (m : ℕ) → found_text ≡ machine.ends m → gamma found.length (pos m)
    pub own : (m : ℕ) → found_text ≡ machine.ends m → has_base found.bases st.base ≡ true
    pub based : (m : ℕ) → found_text ≡ machine.ends m → not (bases_empty found.bases) ≡ true
    pub open_end : found_text ≡ machine.unended → not (bases_empty found.unknown) ≡ true

  pub scan_stands : IsScan (scan l n flow.bases.items row p)
  unfolding scan scan_bases
  scan_stands =
      let base = get_there flow.bases.items st.base (s.sane.few i st.base st.named) in
      let few = shaped.few in
      let top = slice_get_within flow.bases.items st.base base.0 base.1 in
      let one = one_stands base.0 base.1 in
      let wanted : has_base p.bases st.base ≡ true = and_from _ _ (lt-ltb st.base most_bases (omega arith)) st.among in
      let all = walk_meets (HasOne st.base (scan_base l n base.0 row p).length (scan_base l n base.0 row p).unknown) (scan_more l n row p) (λ k at f h. more_keeps st.base (scan_base l n base.0 row p).length (scan_base l n base.0 row p).unknown k at f h) 0 flow.bases.items (nothing_scanned l) st.base st.base base.0 base.1 (omega arith) (λ f. more_meets st.base base.0 (omega arith) wanted f) in
      record {
        ended = λ m e. let a = ends_in_room m e in
            let c = inside.within in
            let d = small_instance in
            near_stands o q _ (pos m) (omega (arith, ints)) (omega (arith, ints)) (q.larger (scan_base l n base.0 row p).length _ (pos m) all.length (one.ended m e));
        own = λ m e. let g = q.inside (scan_base l n base.0 row p).length (pos m) (one.ended m e) in all.base (ap is_some g.2);
        based = λ m e. let g = q.inside (scan_base l n base.0 row p).length (pos m) (one.ended m e) in ap not (some_base _ st.base (all.base (ap is_some g.2)));
        open_end = λ e. ap not (some_base _ st.base (all.unknown (one.open_end e)));
      }
