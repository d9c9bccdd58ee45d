-- Scans of strings, in rising rows.
use Rattle.std.specs.Prelude.{◌≡◌, ℕ, ◌<◌, ℤ, pos, negsuc, ◌-ℤ◌, ◌≤ℤ◌, int_le, int_lt, Bool, true, false, cond, not, ◌||◌, Option, Some, None, is_some, List, length, refl}
use Rattle.std.specs.Int.{w128, saturate_signed, int_min, int_max}
use Rattle.std.specs.Ordering.{int_eq}
use Rattle.std.proofs.Common.{arith, subst, sym}
use lib.Signed.{≤ℤ_refl}
use Rattle.std.proofs.lemmas.Int.{ints, clamps}
use Rattle.std.proofs.lemmas.Bool.{cond_both, and_from, and_parts, false_from_ne_true}
use Rattle.cc_base.specs.Lattices.{LatticeOf, OrderLaws}
use Rattle.cc_base.specs.IntegerDomains.{IntegersOf, BoundLaws, RangeLaws, of_range}
use Rattle.cc_base.specs.IntegerLaws.{MonotoneLaws}
use Rattle.cc_base.specs.NumberRanges.{Range, range_difference, range_clamped, range_met, upper_or}
use Rattle.c_layout.specs.declared.data_model.Model.{Model}
use Rattle.c_layout.specs.declared.shapes.BaseInfo.{BaseInfo}
use Rattle.cfg.specs.declared.programs.Flow.{Flow}
use Rattle.pointer_domain.specs.declared.base_sets.Bases.{Bases}
use Rattle.pointer_domain.specs.declared.pointer_sets.Pointers.{Pointers}
use Rattle.pointer_domain.specs.BaseFacts.{within_has}
use Rattle.pointer_domain.specs.BaseLattice.{bases_order}
use Rattle.pointer_domain.specs.BaseSets.{no_base, bases_has, bases_within, bases_empty, bases_union}
use Rattle.pointer_domain.specs.PointerTables.{offsets, rooms}
use Rattle.value_domain.specs.Strings.FirstZeros.{the_end}
use Rattle.value_domain.specs.Strings.ZeroTables.{is_before, is_known_at, is_known, lengths}
use Rattle.value_domain.specs.declared.values.row_cells.Cell.{Cell}
use Rattle.domain_theorems.proofs.values.BaseChanges.{has_none}
use Rattle.domain_theorems.proofs.values.Flags.{Sets, flag_sets, or_sets, and_sets, not_sets}
use Rattle.domain_theorems.proofs.values.Moves as moves
use Rattle.domain_theorems.proofs.values.Parts.{PointersBelow, pointer_parts}
use Rattle.domain_theorems.proofs.values.Ranges.{RangeBelow, range_refl, difference_monotone, met_monotone, bounds_monotone, of_range_monotone}
use Rattle.store_cells.specs.declared.access_windows.Window.{Window}
use Rattle.store_cells.specs.FirstZeroWrites.{covering_part, offsets_of}
use Rattle.store_objects.specs.LiveBases.{has_base, only_base}
use Rattle.store_cells.specs.NearValues.{near_number}
use Rattle.store_cells.specs.RowPositions.{zero_at, zero_position}
use Rattle.store_monotone.specs.Operations.Placements.{EachFrom, WindowWithin, IsPlaced, IsRegular, CoversToo}
use Rattle.store_monotone.specs.Operations.RowsBelow.{RowsBelow}
use Rattle.store_monotone.specs.Operations.TopCells.{top_number, top_zero}
use Rattle.store_monotone.specs.Operations.TopRows.{top_row}
use Rattle.store_monotone.proofs.operations.AddedRanges.{saturate_monotone}
use Rattle.store_monotone.proofs.operations.FirstZeros.{zero_near, zero_at_top, zero_at_monotone}
use Rattle.store_monotone.proofs.operations.NearCells.{near_is, near_monotone}
use Rattle.store_monotone.proofs.operations.PairedSteps.{walk_pair, numbers_below, any_each}
use Rattle.store_monotone.proofs.operations.Together.{both_each, each}
use Rattle.store_monotone.proofs.operations.Windows.{WindowsBelow, within_monotone}
use Rattle.store_monotone.proofs.operations.ZeroTargets.{offsets_monotone}
use Rattle.transfer_checks.specs.declared.string_scans.Scanned.{Scanned}
use Rattle.transfer_checks.specs.StringScans.{scan_start, last_of_room, unknown_length, length_in, length_at, length_from, known_length, known_or, scan_base, goes_on_in, with_base, with_base_if, scan_more, nothing_scanned, scan_bases, scan}
use Rattle.transfer_monotone.proofs.edges.MemorySteps.{row_near}
use Rattle.transfer_monotone.specs.Values.RisingRows.{PointersRise}
use Rattle.transfer_monotone.specs.Values.LaidOut.{IsLaidOut}
use Rattle.transfer_monotone.specs.Values.StepLaws.{FlowRows}
use Rattle.transfer_monotone.proofs.values.IntegerChecks.{some_more}

-- ---- ranges

pub clamped_monotone : (x u : Range) (a c : ℤ) → RangeBelow x u → RangeBelow (range_clamped x a c) (range_clamped u a c)
clamped_monotone None u a c h = tt
clamped_monotone (Some p) None a c h = absurd h
clamped_monotone (Some p) (Some q) a c h = (omega (arith, ints, clamps), omega (arith, ints, clamps))

pub clamped_in : (x : Range) → RangeBelow (range_clamped x (pos 0) the_end) (Some (pos 0, the_end))
clamped_in None = tt
clamped_in (Some p) = (omega (arith, ints, clamps), omega (arith, ints, clamps))

upper_clamped : (x : Range) → (pos 0 ≤ℤ upper_or (pos 0) (range_clamped x (pos 0) the_end)) × (upper_or (pos 0) (range_clamped x (pos 0) the_end) ≤ℤ the_end)
upper_clamped None = (omega (arith, ints), omega (arith, ints))
upper_clamped (Some p) = (omega (arith, ints, clamps), omega (arith, ints, clamps))

upper_less : (x u : Range) → RangeBelow x u → upper_or (pos 0) (range_clamped x (pos 0) the_end) ≤ℤ upper_or (pos 0) (range_clamped u (pos 0) the_end)
upper_less None u h = (upper_clamped u).0
upper_less (Some p) None h = absurd h
upper_less (Some p) (Some q) h = omega (arith, ints, clamps)

-- small numbers fit 128 bits
small_fits : (z : ℤ) → negsuc 0 ≤ℤ z → z ≤ℤ the_end → z ≤ℤ saturate_signed w128 z
small_fits (pos a) h k = omega (arith, ints)
small_fits (negsuc a) h k = omega (arith, ints)

fits_small : (z : ℤ) → z ≤ℤ the_end → saturate_signed w128 z ≤ℤ the_end
fits_small (pos a) k = omega (arith, ints)
fits_small (negsuc a) k = omega (arith, ints)

-- ---- known ends

known_at_down : (s t : Bool) (f d o e r q : ℤ × ℤ) → Sets s t → d.0 ≤ℤ f.0 → f.1 ≤ℤ d.1 → d.1 ≤ℤ the_end → e.0 ≤ℤ o.0 → o.1 ≤ℤ e.1 → q.0 ≤ℤ r.0 → is_known_at t d e q ≡ true → is_known_at s f o r ≡ true
known_at_down s t f d o e r q h a0 a1 a2 b0 b1 c0 =
    and_sets (is_before d e) (not t || int_lt (d.1 -ℤ e.0) q.0) (is_before f o) (not s || int_lt (f.1 -ℤ o.0) r.0)
    (and_sets (int_le e.1 d.0) (not (int_eq d.1 the_end)) (int_le o.1 f.0) (not (int_eq f.1 the_end)) (λ k. before f.0 d.0 o.1 e.1 a0 b1 k) (λ k. ends f.1 d.1 a1 a2 k))
    (or_sets (not t) (int_lt (d.1 -ℤ e.0) q.0) (not s) (int_lt (f.1 -ℤ o.0) r.0) (not_sets t s h) (λ k. within f.1 d.1 o.0 e.0 r.0 q.0 a1 b0 c0 k))
  where
    before : (f d o e : ℤ) → d ≤ℤ f → o ≤ℤ e → int_le e d ≡ true → int_le o f ≡ true
    before f d o e h i k = grind (arith, ints)

    ends : (f d : ℤ) → f ≤ℤ d → d ≤ℤ the_end → not (int_eq d the_end) ≡ true → not (int_eq f the_end) ≡ true
    ends f d h i k = grind (arith, ints)

    within : (f d o e r q : ℤ) → f ≤ℤ d → e ≤ℤ o → q ≤ℤ r → int_lt (d -ℤ e) q ≡ true → int_lt (f -ℤ o) r ≡ true
    within f d o e r q h i j k = grind (arith, ints)

known_down : (s t : Bool) (f d o e r q : Range) → Sets s t → RangeBelow f d → RangeBelow d (Some (pos 0, the_end)) → RangeBelow o e → RangeBelow r q → is_known t d e q ≡ true → is_known s f o r ≡ true
known_down s t None d o e r q h a c i j k = refl
known_down s t (Some f) d None e r q h a c i j k = refl
known_down s t (Some f) d (Some o) e None q h a c i j k = refl
known_down s t (Some f) None (Some o) e (Some r) q h a c i j k = absurd a
known_down s t (Some f) (Some d) (Some o) None (Some r) q h a c i j k = absurd i
known_down s t (Some f) (Some d) (Some o) (Some e) (Some r) None h a c i j k = absurd j
known_down s t (Some f) (Some d) (Some o) (Some e) (Some r) (Some q) h a c i j k = known_at_down s t f d o e r q h a.0 a.1 c.1 i.0 i.1 j.0 k

lengths_monotone : (f d o e r q : Range) → RangeBelow f d → RangeBelow o e → RangeBelow r q → RangeBelow (lengths f o r) (lengths d e q)
lengths_monotone f d o e None q a i j = tt
lengths_monotone f d o e (Some r) None a i j = absurd j
lengths_monotone f d o e (Some r) (Some q) a i j = met_monotone (range_difference f o) (range_difference d e) (pos 0) (r.1 -ℤ pos 1) (pos 0) (q.1 -ℤ pos 1) (difference_monotone f o d e a i) (≤ℤ_refl (pos 0)) (omega (arith, ints))

met_all : (x : Range) (c last : ℤ) → c ≤ℤ last → RangeBelow (range_met x (pos 0) c) (range_met (Some (pos 0, last)) (pos 0) last)
met_all None c last h = tt
met_all (Some p) c last h = cond_both (int_le (int_max p.0 (pos 0)) (int_min p.1 c)) (Some (int_max p.0 (pos 0), int_min p.1 c)) None (λ r. RangeBelow r (range_met (Some (pos 0, last)) (pos 0) last))
    (λ e. cond_both (int_le (int_max (pos 0) (pos 0)) (int_min last last)) (Some (int_max (pos 0) (pos 0), int_min last last)) None (λ u. RangeBelow (Some (int_max p.0 (pos 0), int_min p.1 c)) u)
    (λ d. (omega (arith, ints, clamps), omega (arith, ints, clamps))) (λ d. absurd (omega (arith, ints, clamps))))
    (λ e. tt)

-- the lengths up to a known end are among those up to the end of the room
lengths_in_room : (f o r : Range) (last : ℤ) → ((p : ℤ × ℤ) → r ≡ Some p → (p.1 -ℤ pos 1) ≤ℤ last) → RangeBelow (lengths f o r) (range_met (Some (pos 0, last)) (pos 0) last)
lengths_in_room f o None last h = tt
lengths_in_room f o (Some p) last h = met_all (range_difference f o) (p.1 -ℤ pos 1) last (h p refl)

pub same_range : (r p : ℤ × ℤ) → Some r ≡ Some p → r ≡ p
same_range r p e = cc

met_within : (x : Range) (c d : ℤ) → c ≤ℤ d → RangeBelow (range_met x (pos 0) c) (Some (pos 0, d))
met_within None c d h = tt
met_within (Some p) c d h = cond_both (int_le (int_max p.0 (pos 0)) (int_min p.1 c)) (Some (int_max p.0 (pos 0), int_min p.1 c)) None (λ r. RangeBelow r (Some (pos 0, d))) (λ t. (omega (arith, ints, clamps), omega (arith, ints, clamps))) (λ t. tt)

union_more : (found more set : Bases) → bases_within found more ≡ true → bases_within found (bases_union more set) ≡ true
union_more found more set h = bases_order.transitive found more (bases_union more set) h (bases_order.join_left more set)

union_both : (found more set : Bases) → bases_within found more ≡ true → bases_within (bases_union found set) (bases_union more set) ≡ true
union_both found more set h = bases_order.join_least found set (bases_union more set) (union_more found more set h) (bases_order.join_right more set)

-- a set with one more base, where that is set
added_more : (a c : Bool) → Sets a c → (found more set : Bases) → bases_within found more ≡ true → bases_within (cond a (bases_union found set) found) (cond c (bases_union more set) more) ≡ true
added_more true true s found more set h = union_both found more set h
added_more true false s found more set h = absurd (let z : false ≡ true = s refl in cc)
added_more false true s found more set h = union_more found more set h
added_more false false s found more set h = h

added_within : (c : Bool) (more set all : Bases) → bases_within more all ≡ true → bases_within set all ≡ true → bases_within (cond c (bases_union more set) more) all ≡ true
added_within true more set all h k = bases_order.join_least more set all h k
added_within false more set all h k = h

module _ {I : Type 0} (l : LatticeOf I) (n : IntegersOf I) (all : Bases) where
  -- lengths and whether the end is unknown, for a scan of one base beside a larger one
  record OneBelow (x : I) (a : Bool) (y : I) (c : Bool) : Type 0 where
    length : l.leq x y ≡ true
    unknown : Sets a c
    from : l.leq y (n.between (pos 0) the_end) ≡ true

  -- the same, of the lengths up to known ends
  abbrev KnownBelow : Pointers I → Pointers I → Option I → Option I → Type 0
  KnownBelow p q x y = OneBelow (known_or l n p x).length (known_or l n p x).unknown (known_or l n q y).length (known_or l n q y).unknown

  pub record ScansBelow (x y : Scanned I) : Type 0 where
    pub length : l.leq x.length y.length ≡ true
    pub bases : bases_within x.bases y.bases ≡ true
    pub unknown : bases_within x.unknown y.unknown ≡ true
    pub from : l.leq y.length (n.between (pos 0) the_end) ≡ true
    pub own : bases_within y.bases all ≡ true

module _ {I : Type 0} {l : LatticeOf I} {n : IntegersOf I} {stands : I → ℤ → Type 0} (o : OrderLaws l) (b : BoundLaws l n stands) (all : Bases) where
  -- bounds of a range are those of the range
  pub of_range_below : (r : Range) → RangeBelow (n.bounds (of_range l n r)) r
  of_range_below None = subst (λ z. RangeBelow z None) (sym b.least_bounds) tt
  of_range_below (Some p) = cond_both (int_le p.0 p.1) (n.between p.0 p.1) l.least (λ x. RangeBelow (n.bounds x) (Some p))
      (λ e. subst (λ z. RangeBelow z (Some p)) (sym (b.between_bounds p.0 p.1 (grind (arith, ints)))) (range_refl (Some p)))
      (λ e. subst (λ z. RangeBelow z (Some p)) (sym b.least_bounds) tt)

  of_lengths : (r : Range) → RangeBelow r (Some (pos 0, the_end)) → l.leq (of_range l n r) (n.between (pos 0) the_end) ≡ true
  of_lengths r h = of_range_monotone o b r (Some (pos 0, the_end)) h

  lengths_near : (x : I) → l.leq x (n.between (pos 0) the_end) ≡ true → l.leq x (top_number n) ≡ true
  lengths_near x h = o.transitive x (n.between (pos 0) the_end) (top_number n) h (zero_near o b)

  near_same : (x : I) → l.leq x (n.between (pos 0) the_end) ≡ true → near_number l n x ≡ x
  near_same x h = near_is o b x (lengths_near x h)

  -- ---- rooms

  pub rooms_monotone : (p q : Pointers I) → PointersBelow l p q → RangeBelow (rooms n p) (rooms n q)
  rooms_monotone p q h = clamped_monotone (range_difference (n.bounds p.len) (n.bounds p.rel)) (range_difference (n.bounds q.len) (n.bounds q.rel)) (pos 0) the_end
      (difference_monotone (n.bounds p.len) (n.bounds p.rel) (n.bounds q.len) (n.bounds q.rel) (bounds_monotone b p.len q.len h.len) (bounds_monotone b p.rel q.rel h.rel))

  rooms_in : (q : Pointers I) → RangeBelow (rooms n q) (Some (pos 0, the_end))
  rooms_in q = clamped_in (range_difference (n.bounds q.len) (n.bounds q.rel))

  abbrev room_number : Pointers I → I
  room_number q = near_number l n (of_range l n (rooms n q))

  room_same : (q : Pointers I) → room_number q ≡ of_range l n (rooms n q)
  room_same q = near_same (of_range l n (rooms n q)) (of_lengths (rooms n q) (rooms_in q))

  room_rises : (p q : Pointers I) → PointersBelow l p q → RangeBelow (n.bounds (room_number p)) (n.bounds (room_number q))
  room_rises p q h = bounds_monotone b (room_number p) (room_number q)
      (near_monotone o b (of_range l n (rooms n p)) (of_range l n (rooms n q)) (of_range_monotone o b (rooms n p) (rooms n q) (rooms_monotone p q h)) (lengths_near (of_range l n (rooms n q)) (of_lengths (rooms n q) (rooms_in q))))

  room_below : (q : Pointers I) → RangeBelow (n.bounds (room_number q)) (rooms n q)
  room_below q = subst (λ z. RangeBelow (n.bounds z) (rooms n q)) (sym (room_same q)) (of_range_below (rooms n q))

  last_rises : (p q : Pointers I) → PointersBelow l p q → last_of_room n p ≤ℤ last_of_room n q
  last_rises p q h =
      let less = upper_less (range_difference (n.bounds p.len) (n.bounds p.rel)) (range_difference (n.bounds q.len) (n.bounds q.rel)) (difference_monotone (n.bounds p.len) (n.bounds p.rel) (n.bounds q.len) (n.bounds q.rel) (bounds_monotone b p.len q.len h.len) (bounds_monotone b p.rel q.rel h.rel)) in
      lower (upper_or (pos 0) (rooms n p)) (upper_or (pos 0) (rooms n q)) less (upper_clamped (range_difference (n.bounds p.len) (n.bounds p.rel))) (upper_clamped (range_difference (n.bounds q.len) (n.bounds q.rel)))
    where
      lower : (a c : ℤ) → a ≤ℤ c → (pos 0 ≤ℤ a) × (a ≤ℤ the_end) → (pos 0 ≤ℤ c) × (c ≤ℤ the_end) → saturate_signed w128 (a -ℤ pos 1) ≤ℤ saturate_signed w128 (c -ℤ pos 1)
      lower a c h i j = saturate_monotone (a -ℤ pos 1) (c -ℤ pos 1) (omega (arith, ints))

  last_in : (q : Pointers I) → last_of_room n q ≤ℤ the_end
  last_in q = let h = upper_clamped (range_difference (n.bounds q.len) (n.bounds q.rel)) in fits_small (upper_or (pos 0) (rooms n q) -ℤ pos 1) (omega (arith, ints))

  -- the upper end of a room, less one, is its last byte
  last_above : (q : Pointers I) (x : Range) → RangeBelow x (rooms n q) → (p : ℤ × ℤ) → x ≡ Some p → (p.1 -ℤ pos 1) ≤ℤ last_of_room n q
  last_above q x h p e =
      let i = upper_clamped (range_difference (n.bounds q.len) (n.bounds q.rel)) in
      under x (rooms n q) h p e i
    where
      under : (x u : Range) → RangeBelow x u → (p : ℤ × ℤ) → x ≡ Some p → (pos 0 ≤ℤ upper_or (pos 0) u) × (upper_or (pos 0) u ≤ℤ the_end) → (p.1 -ℤ pos 1) ≤ℤ saturate_signed w128 (upper_or (pos 0) u -ℤ pos 1)
      under None u h p e i = absurd (cc)
      under (Some r) None h p e i = absurd h
      under (Some r) (Some u) h p e i =
          let j = small_fits (u.1 -ℤ pos 1) (omega (arith, ints)) (omega (arith, ints)) in
          subst (λ (z : ℤ × ℤ). (z.1 -ℤ pos 1) ≤ℤ saturate_signed w128 (u.1 -ℤ pos 1)) (same_range r p e) (omega (arith, ints))

  -- ---- lengths where the end is unknown

  abbrev unknown_range : Pointers I → Range
  unknown_range q = range_met (Some (pos 0, last_of_room n q)) (pos 0) (last_of_room n q)

  unknown_from : (q : Pointers I) → l.leq (of_range l n (unknown_range q)) (n.between (pos 0) the_end) ≡ true
  unknown_from q = of_lengths (unknown_range q) (met_within (Some (pos 0, last_of_room n q)) (last_of_room n q) the_end (last_in q))

  unknown_same : (q : Pointers I) → unknown_length l n q ≡ of_range l n (unknown_range q)
  unknown_same q = near_same (of_range l n (unknown_range q)) (unknown_from q)

  unknown_in_all : (q : Pointers I) → l.leq (unknown_length l n q) (n.between (pos 0) the_end) ≡ true
  unknown_in_all q = subst (λ x. l.leq x (n.between (pos 0) the_end) ≡ true) (sym (unknown_same q)) (unknown_from q)

  within_unknown : (q : Pointers I) (r : Range) → RangeBelow r (unknown_range q) → l.leq (of_range l n r) (unknown_length l n q) ≡ true
  within_unknown q r h = subst (λ x. l.leq (of_range l n r) x ≡ true) (sym (unknown_same q)) (of_range_monotone o b r (unknown_range q) h)

  unknown_rises : (p q : Pointers I) → PointersBelow l p q → l.leq (unknown_length l n p) (unknown_length l n q) ≡ true
  unknown_rises p q h = subst (λ x. l.leq x (unknown_length l n q) ≡ true) (sym (unknown_same p)) (within_unknown q (unknown_range p) (met_all (Some (pos 0, last_of_room n p)) (last_of_room n p) (last_of_room n q) (last_rises p q h)))

  -- ---- one base

  module _ (top r s : List (Cell I)) (h : RowsBelow l top r s) (p q : Pointers I) (j : PointersBelow l p q) (base : BaseInfo) (d : IsPlaced n all top base) where
    abbrev zero_of : List (Cell I) → ℕ → Range
    zero_of row at = n.bounds (zero_at l n row (zero_position base at)).at

    abbrev found_length : List (Cell I) → Pointers I → ℕ × Window → Range
    found_length row t part = lengths (zero_of row part.0) (n.bounds (offsets_of l n part.1)) (n.bounds (room_number t))

    abbrev found_known : List (Cell I) → Pointers I → ℕ × Window → Bool
    found_known row t part = is_known t.part (zero_of row part.0) (n.bounds (offsets_of l n part.1)) (n.bounds (room_number t))

    -- an end that is known in the smaller row alone
    known_below_unknown : (part : ℕ × Window) → KnownBelow l n all p q (length_in l n base r p part) None
    known_below_unknown part = by_known (found_known r p part)
      where
        by_known : (a : Bool) → KnownBelow l n all p q (cond a (Some (of_range l n (found_length r p part))) None) None
        by_known true = record {
          length = within_unknown q (found_length r p part) (lengths_in_room (zero_of r part.0) (n.bounds (offsets_of l n part.1)) (n.bounds (room_number p)) (last_of_room n q)
              (λ x e. let i = last_above p (n.bounds (room_number p)) (room_below p) x e in let k = last_rises p q j in omega (arith, ints)));
          unknown = λ e. refl;
          from = unknown_in_all q;
        }
        by_known false = record { length = unknown_rises p q j; unknown = λ e. e; from = unknown_in_all q }

    below_unknown : (a : Option (ℕ × Window)) → KnownBelow l n all p q (length_at l n base r p a) (length_at l n base s q None)
    below_unknown None = record { length = unknown_rises p q j; unknown = λ e. e; from = unknown_in_all q }
    below_unknown (Some part) = known_below_unknown part

    -- the same part of both
    same_part : (at : ℕ) → at < length base.shape.zeros → (w u : Window) → WindowWithin w u → KnownBelow l n all p q (length_in l n base r p (at, w)) (length_in l n base s q (at, u))
    same_part at e w u i = by_known (found_known r p (at, w)) (found_known s q (at, u))
        (known_down p.part q.part (zero_of r at) (zero_of s at) (n.bounds (offsets_of l n w)) (n.bounds (offsets_of l n u)) (n.bounds (room_number p)) (n.bounds (room_number q)) (flag_sets p.part q.part j.part) zeros ends offset_less room)
      where
        zeros : RangeBelow (zero_of r at) (zero_of s at)
        zeros = bounds_monotone b _ _ (zero_at_monotone o b top r s (zero_position base at) h.small h.large (d.zero at e))

        ends : RangeBelow (zero_of s at) (Some (pos 0, the_end))
        ends = subst (λ z. RangeBelow (zero_of s at) z) (b.between_bounds (pos 0) the_end (omega (arith, ints))) (bounds_monotone b _ (top_zero n).at (zero_at_top o b top r s (zero_position base at) h.small h.large (d.zero at e)))

        offset_less : RangeBelow (n.bounds (offsets_of l n w)) (n.bounds (offsets_of l n u))
        offset_less = bounds_monotone b _ _ (offsets_monotone o b w u i)

        room : RangeBelow (n.bounds (room_number p)) (n.bounds (room_number q))
        room = room_rises p q j

        length_in_all : l.leq (of_range l n (found_length s q (at, u))) (n.between (pos 0) the_end) ≡ true
        length_in_all = o.transitive (of_range l n (found_length s q (at, u))) (unknown_length l n q) (n.between (pos 0) the_end)
            (within_unknown q (found_length s q (at, u)) (lengths_in_room (zero_of s at) (n.bounds (offsets_of l n u)) (n.bounds (room_number q)) (last_of_room n q) (λ x e. last_above q (n.bounds (room_number q)) (room_below q) x e)))
            (unknown_in_all q)

        by_known : (a c : Bool) → Sets c a → KnownBelow l n all p q (cond a (Some (of_range l n (found_length r p (at, w)))) None) (cond c (Some (of_range l n (found_length s q (at, u)))) None)
        by_known true true z = record {
          length = of_range_monotone o b (found_length r p (at, w)) (found_length s q (at, u)) (lengths_monotone (zero_of r at) (zero_of s at) (n.bounds (offsets_of l n w)) (n.bounds (offsets_of l n u)) (n.bounds (room_number p)) (n.bounds (room_number q)) zeros offset_less room);
          unknown = λ e. e;
          from = length_in_all;
        }
        by_known false true z = absurd (let y : false ≡ true = z refl in cc)
        by_known true false z = record {
          length = within_unknown q (found_length r p (at, w)) (lengths_in_room (zero_of r at) (n.bounds (offsets_of l n w)) (n.bounds (room_number p)) (last_of_room n q)
              (λ x e. let i = last_above p (n.bounds (room_number p)) (room_below p) x e in let k = last_rises p q j in omega (arith, ints)));
          unknown = λ e. refl;
          from = unknown_in_all q;
        }
        by_known false false z = record { length = unknown_rises p q j; unknown = λ e. e; from = unknown_in_all q }

    by_part : (a c : Option (ℕ × Window)) → CoversToo a c → ((v : ℕ × Window) → c ≡ Some v → v.0 < length base.shape.zeros) → KnownBelow l n all p q (length_at l n base r p a) (length_at l n base s q c)
    by_part a None i m = below_unknown a
    by_part None (Some v) i m = absurd i
    by_part (Some z) (Some v) i m = subst (λ at. KnownBelow l n all p q (length_in l n base r p (at, z.1)) (length_in l n base s q v)) (sym i.0) (same_part v.0 (m v refl) z.1 v.1 i.1)

    by_start : (m : Model) → IsRegular m base → (w u : Option Window) → WindowsBelow w u → is_some w ≡ true → KnownBelow l n all p q (length_from l n base r p w) (length_from l n base s q u)
    by_start m e None u i f = absurd (cc)
    by_start m e (Some w) None i f = absurd i
    by_start m e (Some w) (Some u) i f = by_part (covering_part base w) (covering_part base u) (e.parts w u i) (λ v g. e.part_number u v g)

    one_below : (m : Model) → IsRegular m base → is_some (scan_start n p) ≡ true → KnownBelow l n all p q (known_length l n base r p) (known_length l n base s q)
    unfolding known_length
    one_below m e f = by_start m e (scan_start n p) (scan_start n q) (within_monotone (offsets n p) (offsets n q) (moves.offsets_monotone o b p q j)) f

  -- ---- base by base

  goes_on_more : (found more : Bases) (number : ℕ) (x y : I) → bases_within found more ≡ true → l.leq x y ≡ true → bases_within (goes_on_in n found number x) (goes_on_in n more number y) ≡ true
  goes_on_more found more number x y h k = added_more (is_some (n.bounds x)) (is_some (n.bounds y)) (some_more (n.bounds x) (n.bounds y) (bounds_monotone b x y k)) found more (only_base number) h

  with_one : (p q : Pointers I) (number : ℕ) → bases_within (only_base number) all ≡ true → (x y : Scanned I) → ScansBelow l n all x y → (a e : Option I) → KnownBelow l n all p q a e → ScansBelow l n all (with_base l n x number (known_or l n p a)) (with_base l n y number (known_or l n q e))
  with_one p q number named x y h a e k = record {
    length = o.join_least x.length (known_or l n p a).length (l.join y.length (known_or l n q e).length) (o.transitive x.length y.length (l.join y.length (known_or l n q e).length) h.length (o.join_left y.length (known_or l n q e).length)) (o.transitive (known_or l n p a).length (known_or l n q e).length (l.join y.length (known_or l n q e).length) k.length (o.join_right y.length (known_or l n q e).length));
    bases = goes_on_more x.bases y.bases number (known_or l n p a).length (known_or l n q e).length h.bases k.length;
    unknown = added_more (known_or l n p a).unknown (known_or l n q e).unknown k.unknown x.unknown y.unknown (only_base number) h.unknown;
    from = o.join_least y.length (known_or l n q e).length (n.between (pos 0) the_end) h.from k.from;
    own = added_within (is_some (n.bounds (known_or l n q e).length)) y.bases (only_base number) all h.own named;
  }

  with_more : (q : Pointers I) (number : ℕ) → bases_within (only_base number) all ≡ true → (x y : Scanned I) → ScansBelow l n all x y → (e : Option I) → l.leq (known_or l n q e).length (n.between (pos 0) the_end) ≡ true → ScansBelow l n all x (with_base l n y number (known_or l n q e))
  with_more q number named x y h e k = record {
    length = o.transitive x.length y.length (l.join y.length (known_or l n q e).length) h.length (o.join_left y.length (known_or l n q e).length);
    bases = added_more false (is_some (n.bounds (known_or l n q e).length)) (λ e. absurd (cc)) x.bases y.bases (only_base number) h.bases;
    unknown = added_more false (known_or l n q e).unknown (λ e. absurd (cc)) x.unknown y.unknown (only_base number) h.unknown;
    from = o.join_least y.length (known_or l n q e).length (n.between (pos 0) the_end) h.from k;
    own = added_within (is_some (n.bounds (known_or l n q e).length)) y.bases (only_base number) all h.own named;
  }

  -- ---- a scan

  known_in_all : (base : BaseInfo) (row : List (Cell I)) (q : Pointers I) (part : ℕ × Window) → l.leq (known_or l n q (length_in l n base row q part)).length (n.between (pos 0) the_end) ≡ true
  known_in_all base row q part = by_known (is_known q.part (n.bounds (zero_at l n row (zero_position base part.0)).at) (n.bounds (offsets_of l n part.1)) (n.bounds (room_number q)))
    where
      found : Range
      found = lengths (n.bounds (zero_at l n row (zero_position base part.0)).at) (n.bounds (offsets_of l n part.1)) (n.bounds (room_number q))

      by_known : (a : Bool) → l.leq (known_or l n q (cond a (Some (of_range l n found)) None)).length (n.between (pos 0) the_end) ≡ true
      by_known true = o.transitive (of_range l n found) (unknown_length l n q) (n.between (pos 0) the_end)
          (within_unknown q found (lengths_in_room (n.bounds (zero_at l n row (zero_position base part.0)).at) (n.bounds (offsets_of l n part.1)) (n.bounds (room_number q)) (last_of_room n q) (λ x e. last_above q (n.bounds (room_number q)) (room_below q) x e)))
          (unknown_in_all q)
      by_known false = unknown_in_all q

  one_in_all : (base : BaseInfo) (row : List (Cell I)) (q : Pointers I) → l.leq (known_or l n q (known_length l n base row q)).length (n.between (pos 0) the_end) ≡ true
  unfolding known_length
  one_in_all base row q = by_start (scan_start n q)
    where
      by_part : (a : Option (ℕ × Window)) → l.leq (known_or l n q (length_at l n base row q a)).length (n.between (pos 0) the_end) ≡ true
      by_part None = unknown_in_all q
      by_part (Some part) = known_in_all base row q part

      by_start : (w : Option Window) → l.leq (known_or l n q (length_from l n base row q w)).length (n.between (pos 0) the_end) ≡ true
      by_start None = unknown_in_all q
      by_start (Some w) = by_part (covering_part base w)

  has_some : (set : Bases) (number : ℕ) → has_base set number ≡ true → bases_empty set ≡ false
  has_some set number e = false_from_ne_true (bases_empty set) (λ (z : bases_empty set ≡ true). has_none set number z (and_parts _ (bases_has set number) e).1)

  has_more : (set more : Bases) (number : ℕ) → bases_within set more ≡ true → has_base set number ≡ true → has_base more number ≡ true
  has_more set more number h e = let p = and_parts _ (bases_has set number) e in and_from _ (bases_has more number) p.0 (within_has set more number h p.1)

  module _ (m : Model) (bases : List BaseInfo) (named : (number : ℕ) → number < length bases → bases_within (only_base number) all ≡ true) (top r s : List (Cell I)) (h : RowsBelow l top r s) (p q : Pointers I) (j : PointersBelow l p q) (start : bases_empty p.bases ≡ false → is_some (scan_start n p) ≡ true) where
    scan_step : (base : BaseInfo) (number : ℕ) (x y : Scanned I) → ((IsPlaced n all top base × IsRegular m base) × (number < length bases)) → ScansBelow l n all x y → ScansBelow l n all (scan_more l n r p base number x) (scan_more l n s q base number y)
    unfolding with_base_if scan_base
    scan_step base number x y e k = by_wanted (has_base p.bases number) (has_base q.bases number) refl (has_more p.bases q.bases number j.bases)
      where
        by_wanted : (a c : Bool) → has_base p.bases number ≡ a → Sets a c → ScansBelow l n all (cond a (with_base l n x number (known_or l n p (known_length l n base r p))) x) (cond c (with_base l n y number (known_or l n q (known_length l n base s q))) y)
        by_wanted true true f g = with_one p q number (named number e.1) x y k (known_length l n base r p) (known_length l n base s q) (one_below top r s h p q j base e.0.0 m e.0.1 (start (has_some p.bases number f)))
        by_wanted true false f g = absurd (let z : false ≡ true = g refl in cc)
        by_wanted false true f g = with_more q number (named number e.1) x y k (known_length l n base s q) (one_in_all base s q)
        by_wanted false false f g = k

    scans_below : EachFrom (λ base number. (IsPlaced n all top base × IsRegular m base) × (number < length bases)) 0 bases → ScansBelow l n all (scan_bases l n bases r p) (scan_bases l n bases s q)
    unfolding scan_bases
    scans_below each = walk_pair (λ base number. (IsPlaced n all top base × IsRegular m base) × (number < length bases)) (ScansBelow l n all) (scan_more l n r p) (scan_more l n s q) scan_step 0 bases (nothing_scanned l) (nothing_scanned l) each
        (record { length = o.reflexive l.least; bases = bases_order.reflexive no_base; unknown = bases_order.reflexive no_base; from = o.least_below (n.between (pos 0) the_end); own = bases_order.least_below all })

    pub scan_below : EachFrom (λ base number. (IsPlaced n all top base × IsRegular m base) × (number < length bases)) 0 bases → ScansBelow l n all (scan l n bases r p) (scan l n bases s q)
    unfolding scan
    scan_below each =
        let k = scans_below each in
        let x : Scanned I = scan_bases l n bases r p in
        let y : Scanned I = scan_bases l n bases s q in
        record {
          length = near_monotone o b x.length y.length k.length (lengths_near y.length k.from);
          bases = k.bases;
          unknown = k.unknown;
          from = subst (λ z. l.leq z (n.between (pos 0) the_end) ≡ true) (sym (near_same y.length k.from)) k.from;
          own = k.own;
        }

-- nothing is scanned through no pointer
module _ {I : Type 0} (l : LatticeOf I) (n : IntegersOf I) (bases : List BaseInfo) (row : List (Cell I)) (p : Pointers I) (empty : bases_empty p.bases ≡ true) where
  none_wanted : (number : ℕ) → has_base p.bases number ≡ false
  none_wanted number = false_from_ne_true _ (λ (e : has_base p.bases number ≡ true). has_none p.bases number empty (and_parts _ (bases_has p.bases number) e).1)

  nothing_more : (base : BaseInfo) (number : ℕ) (x y : Scanned I) → Unit {0} → bases_empty x.bases ≡ true → bases_empty (scan_more l n row p base number x).bases ≡ true
  unfolding with_base_if
  nothing_more base number x y e h = subst (λ c. bases_empty (cond c (with_base l n x number (scan_base l n base row p)) x).bases ≡ true) (sym (none_wanted number)) h

  pub scan_empty : bases_empty (scan l n bases row p).bases ≡ true
  unfolding scan scan_bases
  scan_empty = walk_pair (λ base number. Unit {0}) (λ x y. bases_empty x.bases ≡ true) (scan_more l n row p) (scan_more l n row p) nothing_more 0 bases (nothing_scanned l) (nothing_scanned l) (any_each 0 bases) refl

module _ {I : Type 0} {l : LatticeOf I} {n : IntegersOf I} {stands : I → ℤ → Type 0} (o : OrderLaws l) (b : BoundLaws l n stands) (g : MonotoneLaws l n) (r : RangeLaws l n) (all : Bases) (flow : Flow) (k : IsLaidOut all flow) where
  abbrev top : List (Cell I)
  top = top_row n all flow.bases.items flow.temps

  -- each base of the program is placed and regular, and is named
  pub each_base : EachFrom (λ base number. (IsPlaced n all top base × IsRegular flow.model base) × (number < length flow.bases.items)) 0 flow.bases.items
  each_base = both_each (λ base number. IsPlaced n all top base × IsRegular flow.model base) (λ base number. number < length flow.bases.items) 0 flow.bases.items
      (each o b flow.model flow.bases.items k.layout all flow.temps (row_near o b g r all flow k)) (numbers_below (length flow.bases.items) 0 flow.bases.items (omega arith))

  pub scan_rises : (x y : List (Cell I)) → FlowRows l n all flow x y → (p q : Pointers I) → PointersRise l n all p q → (bases_empty p.bases ≡ false → is_some (scan_start n p) ≡ true) → ScansBelow l n all (scan l n flow.bases.items x p) (scan l n flow.bases.items y q)
  scan_rises x y h p q j start = scan_below o b all flow.model flow.bases.items k.named top x y h.below p q (pointer_parts l p q j.below) start each_base
