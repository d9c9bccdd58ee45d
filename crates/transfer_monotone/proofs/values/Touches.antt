-- The touch of bytes through rising pointers in rising rows.
use Rattle.std.specs.Prelude.{◌≡◌, ℕ, ◌-◌, ◌^◌, ◌<◌, ℤ, pos, negsuc, ◌-ℤ◌, ◌≤ℤ◌, int_lt, int_le, Bool, true, false, cond, not, ◌&&◌, ◌||◌, Some, None, is_none, is_some, List, [], length, replicate, refl}
use Rattle.std.specs.Int.{int_min, int_max}
use Rattle.std.proofs.Common.{arith, sym, subst, subst₂}
use lib.Signed.{≤ℤ_refl}
use Rattle.std.proofs.lemmas.Int.{ints, clamps}
use Rattle.std.proofs.lemmas.Bool.{and_parts, or_parts, cond_both, false_from_ne_true}
use Rattle.cc_base.specs.Lattices.{LatticeOf, OrderLaws}
use Rattle.cc_base.specs.IntegerDomains.{IntegersOf, BoundLaws, of_range}
use Rattle.cc_base.specs.NumberRanges.{Range, range_sum, range_met}
use Rattle.c_layout.specs.declared.shapes.BaseInfo.{BaseInfo}
use Rattle.cfg.specs.declared.programs.Flow.{Flow}
use Rattle.pointer_domain.specs.declared.base_sets.Bases.{Bases}
use Rattle.pointer_domain.specs.declared.pointer_sets.Pointers.{Pointers}
use Rattle.pointer_domain.specs.BaseSets.{bases_within, bases_empty}
use Rattle.pointer_domain.specs.PointerLattice.{no_pointer, pointers_leq, pointer_order}
use Rattle.pointer_domain.specs.PointerTables.{length_above}
use Rattle.value_domain.specs.declared.values.row_cells.Cell.{Cell}
use Rattle.value_domain.specs.declared.values.row_cells.Cell.TheVariants.{Value}
use Rattle.store_cells.specs.NearValues.{near_pointer}
use Rattle.store_objects.specs.LiveBases.{live_of, any_freed, only_base}
use Rattle.domain_theorems.specs.Values.Consistency.{is_consistent}
use Rattle.domain_theorems.specs.Values.Consistency as consistency
use Rattle.domain_theorems.proofs.values.Flags.{Sets, flag_sets, or_sets, and_sets, not_sets}
use Rattle.domain_theorems.proofs.values.Parts.{PointersBelow, pointer_parts, pointers_below}
use Rattle.domain_theorems.proofs.values.Ranges.{RangeBelow, range_refl, sum_monotone, met_monotone, upper_monotone, bounds_monotone, of_range_monotone}
use Rattle.domain_theorems.proofs.values.Bases.{empty_below}
use Rattle.store_monotone.specs.Operations.TopCells.{top_number, top_value}
use Rattle.store_monotone.specs.Operations.TopRows.{top_row}
use Rattle.store_monotone.specs.Operations.Placements.{EachFrom, IsPlaced}
use Rattle.store_monotone.proofs.operations.NearCells.{near_pointer_is}
use Rattle.store_monotone.proofs.operations.LiveBases.{live_of_monotone, writable_monotone}
use Rattle.store_monotone.proofs.operations.StorePlaces.{bounds_some}
use Rattle.store_monotone.proofs.operations.TopRows.{all_placed}
use Rattle.transfer_monotone.specs.Values.LaidOut.{IsLaidOut}
use Rattle.transfer_monotone.proofs.values.TempPlaces.{row_length}
use Rattle.store_monotone.proofs.operations.Consistent.{some_parts, from_some}
use Rattle.transfer_checks.specs.Touches.{leaves_bounds_at, span_of, any_literal, kept_of, is_nowhere, into_bases, leaves_bounds, places_within, touched_inside, touch_violations, touched_rest, touch}
use Rattle.transfer_monotone.specs.Values.RisingRows.{RowsRise, PointersRise}
use Rattle.transfer_monotone.specs.Values.ViolationsBelow.{ViolationsBelow}
use Rattle.transfer_monotone.proofs.values.Results.{smaller_own, none_rises, parts_rise}
use Rattle.transfer_monotone.proofs.values.LiveParts.{live_own, live_empty, writable_own, writable_empty, literal_more, freed_more}
use Rattle.transfer_monotone.proofs.values.ViolationOrder.{touches_below}

-- ---- ranges

-- places outside bounds, where some place and some length are known
pub outside_more : (x y u v : Range) → RangeBelow x u → RangeBelow y v → Sets (leaves_bounds_at x y) (leaves_bounds_at u v)
outside_more None y u v h k e = absurd (cc)
outside_more (Some p) None u v h k e = absurd (cc)
outside_more (Some p) (Some q) None v h k e = absurd h
outside_more (Some p) (Some q) (Some s) None h k e = absurd k
outside_more (Some p) (Some q) (Some s) (Some t) h k e = or_sets (int_lt p.0 (pos 0)) (int_lt q.0 p.1) (int_lt s.0 (pos 0)) (int_lt t.0 s.1) (λ f. grind (arith, ints)) (λ f. grind (arith, ints)) e

-- what is met of a range lies in each that the range lies in
pub met_below : (x y : Range) (a c : ℤ) → RangeBelow x y → RangeBelow (range_met x a c) y
met_below None y a c h = tt
met_below (Some p) None a c h = absurd h
met_below (Some p) (Some q) a c h = cond_both (int_le (int_max p.0 a) (int_min p.1 c)) (Some (int_max p.0 a, int_min p.1 c)) None (λ r. RangeBelow r (Some q)) (λ t. (omega (arith, ints, clamps), omega (arith, ints, clamps))) (λ t. tt)

module _ {I : Type 0} {l : LatticeOf I} {n : IntegersOf I} {stands : I → ℤ → Type 0} (o : OrderLaws l) (b : BoundLaws l n stands) (all : Bases) where
  -- what a pointer part that rises is near of
  near_is_large : (q : Pointers I) → pointers_leq l q (top_value n all).pointer ≡ true → near_pointer l n q ≡ q
  near_is_large q h = near_pointer_is o b q all (pointer_parts l q (top_value n all).pointer h)

  pub near_rises : (p q : Pointers I) → PointersRise l n all p q → PointersRise l n all (near_pointer l n p) (near_pointer l n q)
  near_rises p q h = subst₂ (λ x y. PointersRise l n all x y) (sym (near_is_large p (smaller_own o b all p q h))) (sym (near_is_large q h.own)) h

  some_of : (r : Range) → is_none r ≡ false → is_some r ≡ true
  some_of None h = absurd (cc)
  some_of (Some p) h = refl

  -- into larger sets of bases, of which there is none where there was none
  pub into_rises : (p q : Pointers I) → PointersRise l n all p q → (s t : Bases) → bases_within s t ≡ true → bases_within t all ≡ true → Sets (bases_empty p.bases) (bases_empty s) → (x y : I) → l.leq x y ≡ true → l.leq y (top_number n) ≡ true
      → PointersRise l n all (into_bases l n p s x) (into_bases l n q t y)
  into_rises p q h s t i j z x y k m = by_places (bases_empty s || is_none (n.bounds x)) (bases_empty t || is_none (n.bounds y)) refl
      (or_sets (bases_empty t) (is_none (n.bounds y)) (bases_empty s) (is_none (n.bounds x)) (empty_below s t i) (bounds_some o b x y (n.bounds x) (n.bounds y) refl refl k))
    where
      c : PointersBelow l p q
      c = pointer_parts l p q h.below

      d : PointersBelow l q (top_value n all).pointer
      d = pointer_parts l q (top_value n all).pointer h.own

      large : pointers_leq l (record q { bases = t; rel = y; null = false; ended = false }) (top_value n all).pointer ≡ true
      large = pointers_below l (record q { bases = t; rel = y; null = false; ended = false }) (top_value n all).pointer (record { bases = j; lo = d.lo; rel = m; len = d.len; part = d.part; null = refl; ended = refl })

      by_places : (a e : Bool) → (bases_empty s || is_none (n.bounds x)) ≡ a → Sets e a → PointersRise l n all (cond a (no_pointer l) (record p { bases = s; rel = x; null = false; ended = false })) (cond e (no_pointer l) (record q { bases = t; rel = y; null = false; ended = false }))
      by_places true true f g = none_rises o b all (no_pointer l) ((pointer_order o).least_below (top_value n all).pointer)
      by_places true false f g = none_rises o b all (record q { bases = t; rel = y; null = false; ended = false }) large
      by_places false true f g = absurd (let u : false ≡ true = g refl in cc)
      by_places false false f g =
          let parts = or_parts (bases_empty s) (is_none (n.bounds x)) f in
          let some : bases_empty p.bases ≡ false = false_from_ne_true (bases_empty p.bases) (λ (u : bases_empty p.bases ≡ true). let v = z u in let w = parts.0 in cc) in
          let bounds = some_parts o b p some h.even in
          record {
            below = pointers_below l (record p { bases = s; rel = x; null = false; ended = false }) (record q { bases = t; rel = y; null = false; ended = false }) (record { bases = i; lo = c.lo; rel = k; len = c.len; part = c.part; null = refl; ended = refl });
            own = large;
            even = from_some o b (record p { bases = s; rel = x; null = false; ended = false }) parts.0 (record { lo = bounds.lo; rel = some_of (n.bounds x) parts.1; len = bounds.len });
          }

  -- ---- the places from which the bytes lie within the bounds

  top_bounds : n.bounds (top_number n) ≡ Some (negsuc (2 ^ 64 - 1), pos (2 ^ 64))
  top_bounds = b.between_bounds (negsuc (2 ^ 64 - 1)) (pos (2 ^ 64)) (omega (arith, ints))

  pub near_bounds : (x : I) → l.leq x (top_number n) ≡ true → RangeBelow (n.bounds x) (Some (negsuc (2 ^ 64 - 1), pos (2 ^ 64)))
  near_bounds x h = subst (λ r. RangeBelow (n.bounds x) r) top_bounds (bounds_monotone b x (top_number n) h)

  -- numbers of near ranges are near
  pub range_near : (r : Range) → RangeBelow r (Some (negsuc (2 ^ 64 - 1), pos (2 ^ 64))) → l.leq (of_range l n r) (top_number n) ≡ true
  range_near r h = of_range_monotone o b r (Some (negsuc (2 ^ 64 - 1), pos (2 ^ 64))) h

  pub met_near : (x : I) → l.leq x (top_number n) ≡ true → (c d : ℤ) → l.leq (of_range l n (range_met (n.bounds x) c d)) (top_number n) ≡ true
  met_near x h c d = range_near (range_met (n.bounds x) c d) (met_below (n.bounds x) (Some (negsuc (2 ^ 64 - 1), pos (2 ^ 64))) c d (near_bounds x h))

  -- a consistent pointer that has an offset has a length
  has_length : (p : Pointers I) → is_consistent n p ≡ true → (r : ℤ × ℤ) → n.bounds p.rel ≡ Some r → (q : ℤ × ℤ) × (n.bounds p.len ≡ Some q)
  has_length p h r e = by_empty (bases_empty p.bases) refl
    where
      some_at : (x : Range) → is_some x ≡ true → (q : ℤ × ℤ) × (x ≡ Some q)
      some_at None h = absurd (cc)
      some_at (Some q) h = (q, refl)

      by_empty : (z : Bool) → bases_empty p.bases ≡ z → (q : ℤ × ℤ) × (n.bounds p.len ≡ Some q)
      by_empty false z = some_at (n.bounds p.len) (some_parts o b p z h).len
      by_empty true z =
          let f : consistency.is_nowhere n p ≡ true = subst (λ c. cond c (consistency.is_nowhere n p) (consistency.is_somewhere n p) ≡ true) z h in
          let a = and_parts (is_none (n.bounds p.lo)) _ f in
          let c = and_parts (is_none (n.bounds p.rel)) _ a.1 in
          let d : is_none (n.bounds p.rel) ≡ false = subst (λ x. is_none x ≡ false) (sym e) refl in
          absurd (let g = c.0 in cc)

  pub length_rises : (p q : Pointers I) → PointersRise l n all p q → (r : ℤ × ℤ) → n.bounds p.rel ≡ Some r → length_above n p ≤ℤ length_above n q
  length_rises p q h r e =
      let m = has_length p h.even r e in
      upper_monotone (n.bounds p.len) (n.bounds q.len) (bounds_monotone b p.len q.len (pointer_parts l p q h.below).len) m.0 m.1

  within_rises : (p q : Pointers I) → PointersRise l n all p q → (offset size : ℕ) → (x : Range) → n.bounds p.rel ≡ x
      → RangeBelow (range_met x (pos 0) ((length_above n p -ℤ pos offset) -ℤ pos size)) (range_met (n.bounds q.rel) (pos 0) ((length_above n q -ℤ pos offset) -ℤ pos size))
  within_rises p q h offset size None e = tt
  within_rises p q h offset size (Some r) e =
      let m = length_rises p q h r e in
      met_monotone (Some r) (n.bounds q.rel) (pos 0) ((length_above n p -ℤ pos offset) -ℤ pos size) (pos 0) ((length_above n q -ℤ pos offset) -ℤ pos size)
      (subst (λ z. RangeBelow z (n.bounds q.rel)) e (bounds_monotone b p.rel q.rel (pointer_parts l p q h.below).rel)) (≤ℤ_refl (pos 0)) (omega (arith, ints))

  places_rise : (p q : Pointers I) → PointersRise l n all p q → (offset size : ℕ) → l.leq (places_within l n p offset size) (places_within l n q offset size) ≡ true
  places_rise p q h offset size = of_range_monotone o b _ _ (within_rises p q h offset size (n.bounds p.rel) refl)

  places_near : (q : Pointers I) → pointers_leq l q (top_value n all).pointer ≡ true → (offset size : ℕ) → l.leq (places_within l n q offset size) (top_number n) ≡ true
  places_near q h offset size = met_near q.rel (pointer_parts l q (top_value n all).pointer h).rel (pos 0) ((length_above n q -ℤ pos offset) -ℤ pos size)

  -- ---- the touch

  module _ (bases : List BaseInfo) (named : (number : ℕ) → number < length bases → bases_within (only_base number) all ≡ true) (top r s : List (Cell I)) (each : EachFrom (λ base number. IsPlaced n all top base) 0 bases) (h : RowsRise l n top r s) (p q : Pointers I) (k : PointersRise l n all p q) where
    inside_rises : (offset size : ℕ) → PointersRise l n all (touched_inside l n p (live_of l n bases r p.bases) offset size) (touched_inside l n q (live_of l n bases s q.bases) offset size)
    inside_rises offset size = into_rises p q k (live_of l n bases r p.bases) (live_of l n bases s q.bases)
        (live_of_monotone l n all top bases p.bases q.bases r s each h.below (pointer_parts l p q k.below).bases) (live_own all bases named l n s q.bases) (live_empty l n bases r p.bases)
        (places_within l n p offset size) (places_within l n q offset size) (places_rise p q k offset size) (places_near q k.own offset size)

    kept_more : (write : Bool) (t u : Bases) → bases_within t u ≡ true → bases_within (kept_of bases write t) (kept_of bases write u) ≡ true
    kept_more true t u i = writable_monotone bases t u i
    kept_more false t u i = i

    kept_own : (write : Bool) (t : Bases) → bases_within t all ≡ true → bases_within (kept_of bases write t) all ≡ true
    kept_own true t i = writable_own all bases named t
    kept_own false t i = i

    kept_empty : (write : Bool) (t : Bases) → Sets (bases_empty t) (bases_empty (kept_of bases write t))
    kept_empty true t = writable_empty bases t
    kept_empty false t = λ e. e

    rest_rises : (write : Bool) (x y : Pointers I) → PointersRise l n all x y → PointersRise l n all (touched_rest l n bases write x) (touched_rest l n bases write y)
    rest_rises write x y i =
        let c = pointer_parts l x y i.below in
        let d = pointer_parts l y (top_value n all).pointer i.own in
        near_rises (into_bases l n x (kept_of bases write x.bases) x.rel) (into_bases l n y (kept_of bases write y.bases) y.rel)
        (into_rises x y i (kept_of bases write x.bases) (kept_of bases write y.bases) (kept_more write x.bases y.bases c.bases) (kept_own write y.bases d.bases) (kept_empty write x.bases) x.rel y.rel c.rel d.rel)

    -- the pointers that go on behind a touch
    pub touch_rises : (offset size : ℕ) (write : Bool) → PointersRise l n all (touch l n bases r p offset size write).rest (touch l n bases s q offset size write).rest
    unfolding touch
    touch_rises offset size write = rest_rises write (touched_inside l n p (live_of l n bases r p.bases) offset size) (touched_inside l n q (live_of l n bases s q.bases) offset size) (inside_rises offset size)

    -- what it may violate
    pub touch_violates : (offset size : ℕ) (write : Bool) → ViolationsBelow (touch l n bases r p offset size write).violations (touch l n bases s q offset size write).violations
    unfolding touch touch_violations
    touch_violates offset size write =
        let c = pointer_parts l p q k.below in
        let i = inside_rises offset size in
        let m = live_of_monotone l n all top bases p.bases q.bases r s each h.below c.bases in
        touches_below (p.null || p.ended) (any_freed l n bases r p.bases) (not (bases_empty (live_of l n bases r p.bases)) && leaves_bounds n p offset size) (write && any_literal bases (touched_inside l n p (live_of l n bases r p.bases) offset size).bases)
        (q.null || q.ended) (any_freed l n bases s q.bases) (not (bases_empty (live_of l n bases s q.bases)) && leaves_bounds n q offset size) (write && any_literal bases (touched_inside l n q (live_of l n bases s q.bases) offset size).bases)
        (or_sets p.null p.ended q.null q.ended (flag_sets p.null q.null c.null) (flag_sets p.ended q.ended c.ended))
        (freed_more o b all top r s h.below bases each p.bases q.bases c.bases)
        (and_sets (not (bases_empty (live_of l n bases r p.bases))) (leaves_bounds n p offset size) (not (bases_empty (live_of l n bases s q.bases))) (leaves_bounds n q offset size) (not_sets (bases_empty (live_of l n bases r p.bases)) (bases_empty (live_of l n bases s q.bases)) (empty_below (live_of l n bases r p.bases) (live_of l n bases s q.bases) m))
        (outside_more (range_sum (n.bounds p.rel) (span_of offset size)) (n.bounds p.len) (range_sum (n.bounds q.rel) (span_of offset size)) (n.bounds q.len) (sum_monotone (n.bounds p.rel) (span_of offset size) (n.bounds q.rel) (span_of offset size) (bounds_monotone b p.rel q.rel c.rel) (range_refl (span_of offset size))) (bounds_monotone b p.len q.len c.len)))
        (and_sets write (any_literal bases (touched_inside l n p (live_of l n bases r p.bases) offset size).bases) write (any_literal bases (touched_inside l n q (live_of l n bases s q.bases) offset size).bases) (λ e. e) (literal_more bases (touched_inside l n p (live_of l n bases r p.bases) offset size).bases (touched_inside l n q (live_of l n bases s q.bases) offset size).bases (parts_rise o b all i).bases))

  -- ---- in rows of a program

  module _ (flow : Flow) (k : IsLaidOut all flow) where
    pub placed_bases : EachFrom (λ base number. IsPlaced n all (top_row n all flow.bases.items flow.temps) base) 0 flow.bases.items
    placed_bases =
        let w = row_length n all flow k in
        let m = k.near in
        all_placed n all (top_row n all flow.bases.items flow.temps) [] (replicate flow.temps (Value (top_value n all))) 0 flow.bases.items refl (omega arith) k.layout.placed
