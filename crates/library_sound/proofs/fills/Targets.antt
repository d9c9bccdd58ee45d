-- Where a library call writes through a pointer: its room, the pointers that go on, and the offsets that it touches.
use Rattle.std.proofs.Common.{◌≡◌, ℕ, ◌+◌, ◌-◌, ◌^◌, ◌<◌, ◌≤◌, Bool, true, false, cond, not, ◌||◌, ◌==◌, Some, None, List, length, arith, subst, sym, refl, ap, ◌∙◌, inl, inr}
use Rattle.std.specs.Prelude.{slice_get, ℤ, pos, negsuc, ◌-ℤ◌, ◌+ℤ◌, ◌≤ℤ◌, ◌<ℤ◌, is_none, int_le, int_lt, nat_lt, unsigned_abs}
use Rattle.std.specs.Int.{int_min, int_max, saturate_signed, w128}
use Rattle.std.proofs.lemmas.Int.{ints, clamps}
use Rattle.std.proofs.lemmas.Bool.{cases_Bool, and_parts, and_from, or_right, lt-ltb, ltb-true, eqb-true}
use Rattle.std.proofs.lemmas.Option.{same_Some, slice_get_within}
use Rattle.cc_base.specs.Lattices.{LatticeOf, OrderLaws}
use Rattle.cc_base.specs.IntegerDomains.{IntegersOf, BoundLaws}
use Rattle.cc_base.specs.NumberRanges.{Range, range_met, range_difference, range_clamped, upper_or}
use Rattle.c_layout.specs.declared.shapes.BaseInfo.{BaseInfo}
use Rattle.c_layout.specs.declared.shapes.BaseKind.{BaseKind}
use Rattle.c_layout.specs.declared.shapes.BaseKind.TheVariants.{Static, Automatic, Literal, Newest, Older}
use Rattle.cfg.specs.declared.programs.Flow.{Flow}
use Rattle.pointer_domain.specs.BaseSets.{bases_has, bases_count, bases_within, no_base}
use Rattle.pointer_domain.specs.PointerTables.{the_end, offsets, rooms}
use Rattle.pointer_domain.specs.declared.base_sets.Bases.{Bases}
use Rattle.pointer_domain.specs.declared.pointer_sets.Pointers.{Pointers}
use Rattle.domain_theorems.proofs.values.Numbers.{RangeHas, difference_has, upper_above, bounds_have}
use Rattle.domain_theorems.proofs.values.Numbers as numbers
use Rattle.store_cells.specs.declared.access_windows.Window.{Window}
use Rattle.store_cells.specs.AccessWindows.{last_offset, window_between, window_within}
use Rattle.store_objects.specs.LiveBases.{most_bases, has_base, is_literal_kind, is_writable_in, add_writable, writable_of, single_bases, is_one_instance}
use Rattle.transfer_checks.specs.LibraryArguments.{is_above_room, cut_by, may_be_none, writes_literal, kept_after, after_write, difference_of, last_touched, touched_from, within_bases, passes_room, cut_by_room, end_of, touched_window}
use Rattle.transfer_library.specs.MemoryCalls.{last_sure, sure_between, sure_window, lower_of, is_one_byte}
use Rattle.transfer_checks.specs.Touches.{is_nowhere, is_literal_or, any_literal}
use Rattle.memory_model.specs.Memory.Instances.{Memory, live, life_at}
use Rattle.memory_model.specs.Effects.Touches.{storage_of, storage_at, is_literal}
use Rattle.store_sound.specs.Concretization.SoundMemory.{storage_for, IsInstanceOf, IsMemoryOf, IsWithin}
use Rattle.store_sound.specs.Concretization.ValueMeaning.{Naming, InGammaInto}
use Rattle.store_sound.specs.Operations.Shapes.{AreShaped}
use Rattle.store_sound.proofs.operations.LoadSound.{instance_there}
use Rattle.store_sound.proofs.operations.OneBases.{one_base}
use Rattle.store_sound.proofs.operations.Sets.{if_keeps, if_adds, is_single}
use Rattle.store_sound.proofs.operations.StoreLeaves.{IsAlone}
use Rattle.store_sound.proofs.operations.Slices.{get_there}
use Rattle.store_sound.proofs.operations.StorePlaces.{not_empty}
use Rattle.store_sound.proofs.operations.TouchedRest.{near_stands}
use Rattle.store_sound.proofs.operations.TouchSound.{or_none, bounded}
use Rattle.store_sound.proofs.operations.Walks.{walk_meets}
use Rattle.store_sound.proofs.operations.Windows.{WindowHas, within_has}
use Rattle.store_sound.proofs.operations.Windows as windows

-- ---- ranges

seen_range : (r : Range) (z : ℤ) → RangeHas r z → windows.RangeHas r z
seen_range None z h = absurd h
seen_range (Some p) z h = record { low = p.0; high = p.1; is = refl; from = h.0; to = h.1 }

clamped_has : (x : Range) (a b z : ℤ) → RangeHas x z → a ≤ℤ z → z ≤ℤ b → RangeHas (range_clamped x a b) z
clamped_has None a b z h k m = absurd h
clamped_has (Some p) a b z h k m = let h0 = h.0 in let h1 = h.1 in (omega (arith, ints, clamps), omega (arith, ints, clamps))

pub sat_above : (x z : ℤ) → z ≤ℤ x → z ≤ℤ pos (2 ^ 127 - 1) → z ≤ℤ saturate_signed w128 x
sat_above (pos k) z h g = omega (arith, ints)
sat_above (negsuc k) z h g = omega (arith, ints)

pub sat_below : (x z : ℤ) → x ≤ℤ z → negsuc (2 ^ 127 - 1) ≤ℤ z → saturate_signed w128 x ≤ℤ z
sat_below (pos k) z h g = omega (arith, ints)
sat_below (negsuc k) z h g = omega (arith, ints)

abs_from : (z : ℤ) (k : ℕ) → pos k ≤ℤ z → k ≤ unsigned_abs z
abs_from (pos n) k h = omega (arith, ints, h)
abs_from (negsuc n) k h = absurd (omega (arith, ints, h))

abs_to : (z : ℤ) (k : ℕ) → pos 0 ≤ℤ z → z ≤ℤ (pos k -ℤ pos 1) → unsigned_abs z < k
abs_to (pos n) k h e = omega (arith, ints, e)
abs_to (negsuc n) k h e = absurd (omega (arith, ints, h))

-- ---- sets

only_literal : (kind : BaseKind) → is_literal (storage_for kind) ≡ true → is_literal_kind kind ≡ true
only_literal Static h = cc
only_literal Automatic h = cc
only_literal Literal h = refl
only_literal Newest h = cc
only_literal Older h = cc

no_literal : (kind : BaseKind) → is_literal (storage_for kind) ≡ false → is_literal_kind kind ≡ false
no_literal Static h = refl
no_literal Automatic h = refl
no_literal Literal h = cc
no_literal Newest h = refl
no_literal Older h = refl

or_at : (found more : Bool) → found ≡ true → (found || more) ≡ true
or_at found more h = rw h refl

module _ (bases : List BaseInfo) (few : length bases ≤ most_bases) (set : Bases) (b : ℕ) (base : BaseInfo) (at : slice_get bases b ≡ Some base) (has : bases_has set b ≡ true) where
  in_set : has_base set b ≡ true
  in_set = let w = slice_get_within bases b base at in and_from _ _ (lt-ltb b most_bases (omega (arith, few, w))) has

  pub in_writable : is_literal_kind base.kind ≡ false → has_base (writable_of bases set) b ≡ true
  in_writable plain =
      let w = slice_get_within bases b base at in
      walk_meets (λ s. has_base s b ≡ true) (add_writable set) (λ k at s g. if_keeps (is_writable_in set k at) at s b g) 0 bases no_base b b base at (omega arith)
      (λ s. if_adds (is_writable_in set base b) s b (and_from _ _ in_set (ap not plain)) (omega (arith, few, w)))

  pub is_any_literal : is_literal_kind base.kind ≡ true → any_literal bases set ≡ true
  unfolding any_literal
  is_any_literal lit = walk_meets (λ s. s ≡ true) (is_literal_or set) (λ k a s f. or_at s _ f) 0 bases false b b base at (omega arith) (λ s. or_right s _ (and_from _ _ in_set lit))

-- a set of one base that stands for one instance
pub alone_is : (bases : List BaseInfo) (set : Bases) (b : ℕ) → has_base set b ≡ true → is_one_instance bases set ≡ true → IsAlone bases set b
alone_is bases set b has h =
    let p = and_parts (bases_count set == 1) (bases_within set (single_bases bases)) h in
    let e : bases_count set ≡ 1 = eqb-true (bases_count set) 1 p.0 in
    record {
      one = λ d g. let y = and_parts (nat_lt b most_bases) (bases_has set b) has in let z = and_parts (nat_lt d most_bases) (bases_has set d) g in one_base set b d (ltb-true _ _ y.0) (ltb-true _ _ z.0) e y.1 z.1;
      single = λ d base f g. let y = and_parts (nat_lt d most_bases) (bases_has set d) g in is_single bases d base f (ltb-true _ _ y.0) set p.1 y.1;
    }

-- ---- the pointer and the bytes that it reaches

module _ {I : Type 0} {l : LatticeOf I} {n : IntegersOf I} {gamma : I → ℤ → Type 0} (o : OrderLaws l) (q : BoundLaws l n gamma) (flow : Flow) (shaped : AreShaped flow.bases.items) (naming : Naming) (memory : Memory) (sane : IsMemoryOf flow.model flow.bases.items naming memory)
    (p : Pointers I) (i offset lo hi : ℕ) (st : InGammaInto gamma naming memory p i offset lo hi) (inside : IsWithin memory i offset lo hi) where
  small : hi ≤ last_offset
  small = let a = sane.small i in let b = inside.within in omega (arith, a, b)

  offsets_have : RangeHas (offsets n p) (pos offset)
  offsets_have =
      let g : (pos lo +ℤ (pos offset -ℤ pos lo)) ≡ pos offset = omega (arith, ints) in
      subst (RangeHas (offsets n p)) g (numbers.sum_has (n.bounds p.lo) (n.bounds p.rel) (pos lo) (pos offset -ℤ pos lo) (bounds_have q p.lo (pos lo) st.lower) (bounds_have q p.rel (pos offset -ℤ pos lo) st.relative))

  rooms_have : RangeHas (rooms n p) (pos (hi - offset))
  rooms_have =
      let b = inside.below in
      let d = small in
      let e : ((pos hi -ℤ pos lo) -ℤ (pos offset -ℤ pos lo)) ≡ pos (hi - offset) = omega (arith, ints, b) in
      clamped_has (range_difference (n.bounds p.len) (n.bounds p.rel)) (pos 0) the_end (pos (hi - offset))
      (subst (RangeHas (range_difference (n.bounds p.len) (n.bounds p.rel))) e (difference_has (n.bounds p.len) (n.bounds p.rel) (pos hi -ℤ pos lo) (pos offset -ℤ pos lo) (bounds_have q p.len _ st.room) (bounds_have q p.rel _ st.relative)))
      (omega (arith, ints)) (omega (arith, ints, d))

  -- ---- room

  module _ (need : Range) (size : ℕ) (has : RangeHas need (pos size)) where
    -- more bytes than there is room for are told
    pub room_told : hi - offset < size → passes_room n need p ≡ true
    room_told h = by_ranges need (rooms n p) has rooms_have
      where
        by_ranges : (x y : Range) → RangeHas x (pos size) → RangeHas y (pos (hi - offset)) → is_above_room x y ≡ true
        by_ranges None y a b = absurd a
        by_ranges (Some x) None a b = absurd b
        by_ranges (Some x) (Some y) a b = let a1 = a.1 in let b0 = b.0 in let less : y.0 <ℤ x.1 = omega (arith, ints, a1, b0, h) in grind (arith, ints)

    pub cut_has : size ≤ hi - offset → RangeHas (cut_by_room n need p) (pos size)
    cut_has h = by_room (rooms n p) rooms_have
      where
        by_room : (y : Range) → RangeHas y (pos (hi - offset)) → RangeHas (cut_by need y) (pos size)
        by_room None b = absurd b
        by_room (Some y) b = let b1 = b.1 in numbers.met_has need (pos 0) y.1 (pos size) has (omega (arith, ints)) (omega (arith, ints, b1, h))

  -- ---- the pointers that go on

  pub within_stands : (set : Bases) → bases_has set st.base ≡ true → (r : InGammaInto gamma naming memory (within_bases l n p set) i offset lo hi) × (r.base ≡ st.base)
  within_stands set has =
      let somewhere : is_nowhere n set p.rel ≡ false = or_none _ _ (not_empty set st.base has) (bounded o q p.rel (pos offset -ℤ pos lo) st.relative) in
      let a = inside.above in
      let b = inside.below in
      let c = small in
      let r : InGammaInto gamma naming memory (within_bases l n p set) i offset lo hi = rw somewhere (record {
        base = st.base;
        named = st.named;
        among = has;
        lower = near_stands o q p.lo (pos lo) (omega (arith, ints)) (omega (arith, ints)) st.lower;
        relative = near_stands o q p.rel (pos offset -ℤ pos lo) (omega (arith, ints)) (omega (arith, ints)) st.relative;
        room = near_stands o q p.len (pos hi -ℤ pos lo) (omega (arith, ints)) (omega (arith, ints)) st.room;
        whole = st.whole;
      }) in
      (r, same_Some r.base st.base (sym r.named ∙ st.named))

  -- ---- literals

  module _ (alive : life_at memory i ≡ live) where
    abbrev base : BaseInfo
    base = (get_there flow.bases.items st.base (sane.few i st.base st.named)).0

    base_at : slice_get flow.bases.items st.base ≡ Some base
    base_at = (get_there flow.bases.items st.base (sane.few i st.base st.named)).1

    storage_is : storage_at memory i ≡ storage_for base.kind
    storage_is =
        let it = instance_there memory i alive in
        let k : IsInstanceOf flow.model base it.0 = sane.instances i st.base base it.0 st.named base_at it.1 in
        ap storage_of it.1 ∙ k.storage

    module _ (need : Range) (size : ℕ) (has : RangeHas need (pos size)) where
      pub literal_told : 0 < size → is_literal (storage_at memory i) ≡ true → writes_literal flow.bases.items p.bases need ≡ true
      literal_told some lit =
          let a = is_any_literal flow.bases.items shaped.few p.bases st.base base base_at st.among (only_literal base.kind (ap is_literal (sym storage_is) ∙ lit)) in
          let b = upper_above need (pos size) has in
          let c : pos 1 ≤ℤ upper_or (pos 0) need = omega (arith, ints, b, some) in
          and_from _ _ (grind (arith, ints)) a

      -- what is written is no literal
      pub is_writable : (set : Bases) → bases_has set st.base ≡ true → is_literal (storage_at memory i) ≡ false → has_base (writable_of flow.bases.items set) st.base ≡ true
      is_writable set among plain = in_writable flow.bases.items shaped.few set st.base base base_at among (no_literal base.kind (ap is_literal (sym storage_is) ∙ plain))

      pub after_has : (0 < size → is_literal (storage_at memory i) ≡ false) → bases_has (after_write flow.bases.items p.bases need) st.base ≡ true
      after_has plain = by_need need has
        where
          by_none : (x : ℤ × ℤ) → RangeHas (Some x) (pos size) → (none : Bool) → int_le x.0 (pos 0) ≡ none → bases_has (kept_after flow.bases.items p.bases none) st.base ≡ true
          by_none x h true e = st.among
          by_none x h false e = let h1 = h.1 in let above : pos 0 <ℤ x.0 = grind (arith, ints) in
              (and_parts (nat_lt st.base most_bases) (bases_has (writable_of flow.bases.items p.bases) st.base) (is_writable p.bases st.among (plain (let low = h.0 in omega (arith, ints, above, low))))).1

          by_need : (x : Range) → RangeHas x (pos size) → bases_has (cond (is_none x) no_base (kept_after flow.bases.items p.bases (may_be_none x))) st.base ≡ true
          by_need None h = absurd h
          by_need (Some x) h = by_none x h (int_le x.0 (pos 0)) refl

  -- ---- windows

  -- the offset at which it begins
  pub start_has : WindowHas (window_within (offsets n p)) offset
  start_has = let b = inside.below in let c = small in within_has (offsets n p) offset (seen_range (offsets n p) (pos offset) offsets_have) (omega (arith, b, c))

  end_above : pos hi ≤ℤ end_of n p
  end_above =
      let a = upper_above (n.bounds p.lo) (pos lo) (bounds_have q p.lo (pos lo) st.lower) in
      let b = upper_above (n.bounds p.len) (pos hi -ℤ pos lo) (bounds_have q p.len (pos hi -ℤ pos lo) st.room) in
      let c = small in
      sat_above (upper_or (pos 0) (n.bounds p.lo) +ℤ upper_or (pos 0) (n.bounds p.len)) (pos hi) (omega (arith, ints, a, b)) (omega (arith, ints, c))

  -- each byte that is touched
  pub touched_has : (need : Range) (size : ℕ) → RangeHas need (pos size) → size ≤ hi - offset → (x : ℕ) → offset ≤ x → x < offset + size → WindowHas (touched_window n p need) x
  unfolding touched_window
  touched_has need size has room x from to = by_start (offsets n p) offsets_have
    where
      count : ℤ
      count = upper_or (pos 0) need

      end : ℤ
      end = end_of n p

      by_count : (s : ℤ × ℤ) → RangeHas (Some s) (pos offset) → (none : Bool) → int_lt (upper_or (pos 0) need) (pos 1) ≡ none → WindowHas (cond none None (window_within (range_met (Some (s.0, last_touched s.1 (upper_or (pos 0) need) (end_of n p))) s.0 (last_touched s.1 (upper_or (pos 0) need) (end_of n p))))) x
      by_count s h true e =
          let a = upper_above need (pos size) has in
          let b : upper_or (pos 0) need <ℤ pos 1 = grind (arith, ints) in
          absurd (omega (arith, ints, a, b, from, to))
      by_count s h false e =
          let a = upper_above need (pos size) has in
          let c = small in
          let d = end_above in
          let h0 = h.0 in
          let h1 = h.1 in
          let y = sat_above (upper_or (pos 0) need -ℤ pos 1) (pos size -ℤ pos 1) (omega (arith, ints, a)) (omega (arith, ints, c, room)) in
          let z = sat_above (s.1 +ℤ difference_of (upper_or (pos 0) need) (pos 1)) (pos x) (omega (arith, ints, h1, y, to)) (omega (arith, ints, c, room, to)) in
          let w = sat_above (end_of n p -ℤ pos 1) (pos x) (omega (arith, ints, d, to, room)) (omega (arith, ints, c, room, to)) in
          let last : pos x ≤ℤ last_touched s.1 (upper_or (pos 0) need) (end_of n p) = omega (arith, ints, clamps, z, w) in
          let first : s.0 ≤ℤ pos x = omega (arith, ints, h0, from) in
          within_has _ x (seen_range _ (pos x) (numbers.met_has (Some (s.0, last_touched s.1 (upper_or (pos 0) need) (end_of n p))) s.0 (last_touched s.1 (upper_or (pos 0) need) (end_of n p)) (pos x) (first, last) first last)) (omega (arith, c, room, to))

      by_start : (r : Range) → RangeHas r (pos offset) → WindowHas (touched_from r (upper_or (pos 0) need) (end_of n p)) x
      by_start None h = absurd h
      by_start (Some s) h = by_count s h (int_lt (upper_or (pos 0) need) (pos 1)) refl

  -- the bytes that are surely touched
  module _ (need : Range) (size : ℕ) (has : RangeHas need (pos size)) where
    sure_by : (hi last : ℤ) → pos offset ≤ℤ hi → last ≤ℤ (pos (offset + size) -ℤ pos 1) → (w : Window) → sure_between hi last ≡ Some w → (offset ≤ w.lo) × (w.hi < offset + size)
    sure_by h last from to w e = elim (cases_Bool (int_le h last)) [
      | inr f ↦ (let g : None ≡ Some w = rw f at e in cc)
      | inl f ↦ (let g : window_within (Some (h, last)) ≡ Some w = rw f at e in elim (cases_Bool (int_le (int_max h (pos 0)) (int_min last (pos last_offset)))) [
        | inr x ↦ (let y : None ≡ Some w = rw x at g in cc)
        | inl x ↦ (let y : Some (window_between (unsigned_abs (int_max h (pos 0))) (unsigned_abs (int_min last (pos last_offset)))) ≡ Some w = rw x at g in
            let z = same_Some _ w y in
            let v : int_max h (pos 0) ≤ℤ int_min last (pos last_offset) = grind (arith, ints) in
            let a : pos offset ≤ℤ int_max h (pos 0) = omega (arith, ints, clamps, from) in
            let b : int_min last (pos last_offset) ≤ℤ (pos (offset + size) -ℤ pos 1) = omega (arith, ints, clamps, to) in
            let c : offset ≤ unsigned_abs (int_max h (pos 0)) = abs_from (int_max h (pos 0)) offset a in
            let d : unsigned_abs (int_min last (pos last_offset)) < offset + size = abs_to (int_min last (pos last_offset)) (offset + size) (omega (arith, ints, a, v)) b in
            subst (λ t. (offset ≤ t.lo) × (t.hi < offset + size)) z (c, d))
      ])
    ]

    pub sure_has : (w : Window) → sure_window (offsets n p) need ≡ Some w → (offset ≤ w.lo) × (w.hi < offset + size)
    sure_has w e = by_ranges (offsets n p) need offsets_have has e
      where
        by_ranges : (x y : Range) → RangeHas x (pos offset) → RangeHas y (pos size) → sure_window x y ≡ Some w → (offset ≤ w.lo) × (w.hi < offset + size)
        by_ranges None y a b f = absurd a
        by_ranges (Some x) None a b f = absurd b
        by_ranges (Some x) (Some y) a b f =
            let a0 = a.0 in
            let a1 = a.1 in
            let b0 = b.0 in
            let s = sat_below (x.0 +ℤ y.0) (pos (offset + size)) (omega (arith, ints, a0, b0)) (omega (arith, ints)) in
            let t = sat_below (saturate_signed w128 (x.0 +ℤ y.0) -ℤ pos 1) (pos (offset + size) -ℤ pos 1) (omega (arith, ints, s)) (omega (arith, ints)) in
            sure_by x.1 (last_sure x.0 y.0) a1 t w f

    pub least_has : lower_of need ≤ℤ pos size
    least_has = by_need need has
      where
        by_need : (y : Range) → RangeHas y (pos size) → lower_of y ≤ℤ pos size
        by_need None b = absurd b
        by_need (Some y) b = b.0

    pub one_has : is_one_byte need ≡ true → size ≤ 1
    one_has e = let a = upper_above need (pos size) has in let b : upper_or (pos 0) need ≤ℤ pos 1 = grind (arith, ints) in omega (arith, ints, a, b)
