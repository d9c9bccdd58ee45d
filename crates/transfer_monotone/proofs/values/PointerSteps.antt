-- Steps that make pointers, move them and compare them, in rising rows.
use Rattle.std.specs.Prelude.{◌≡◌, ℕ, zero, suc, ◌+◌, ◌^◌, ◌-◌, ◌<◌, ◌≤◌, ◌==◌, ℤ, pos, negsuc, ◌≤ℤ◌, ◌-ℤ◌, int_le, Bool, true, false, cond, not, ◌||◌, ◌&&◌, Option, Some, None, is_none, is_some, List, [], ◌∷◌, length, slice_get, refl}
use Rattle.std.specs.Int.{int_min, int_max}
use Rattle.std.specs.Option.{unwrap_or}
use Rattle.std.proofs.Common.{arith, sym, subst, ap, ◌∙◌, inl, inr}
use Rattle.std.proofs.lemmas.Int.{ints, clamps}
use Rattle.std.proofs.lemmas.Bool.{cases_Bool, cond-true, cond-false, and_parts, and_from, or_cases, cond_both, leb-true, not-true, eqb-true}
use Rattle.cc_base.specs.Lattices.{LatticeOf, OrderLaws}
use Rattle.cc_base.specs.NumberRanges.{Range, range_between, range_sum, range_difference, range_times, range_over, range_met, upper_or}
use Rattle.cc_base.specs.IntegerDomains.{IntegersOf, BoundLaws, RangeLaws, between_or_least, of_range}
use Rattle.cc_base.specs.IntegerLaws.{MonotoneLaws, tri_leq}
use Rattle.cc_base.specs.IntegerTypes.{least_of, greatest_of}
use Rattle.cc_base.specs.declared.integer_operators.Rel.{Rel}
use Rattle.cc_base.specs.declared.integer_operators.Rel.TheVariants.{Lt, Le, Gt, Ge, Eq, Ne}
use Rattle.cc_base.specs.declared.integer_operators.Tri.{Tri}
use Rattle.cc_base.specs.declared.integer_operators.Tri.TheVariants.{Never}
use Rattle.c_layout.specs.declared.shapes.BaseInfo.{BaseInfo}
use Rattle.c_layout.specs.declared.leaf_lists.Class.TheVariants as class
use Rattle.cfg.specs.declared.programs.Flow.{Flow}
use Rattle.cfg.specs.declared.machine_instructions.Amount.{Amount}
use Rattle.cfg.specs.WellFormed.{are_placed, base_values}
use Rattle.cfg.specs.BaseShapes.{is_extent}
use Rattle.pointer_domain.specs.declared.base_sets.Bases.{Bases}
use Rattle.pointer_domain.specs.declared.pointer_sets.Pointers.{Pointers}
use Rattle.pointer_domain.specs.BaseSets.{bases_empty, bases_within, bases_meet, bases_count}
use Rattle.pointer_domain.specs.BaseLattice.{bases_order}
use Rattle.pointer_domain.specs.PointerLattice.{pointers_leq, pointer_order}
use Rattle.pointer_domain.specs.PointerTables.{longest, the_end, offsets, length_above, moved_to, shifted, part_starts, part_at, narrowed, is_any, same_one_base, pointers_difference}
use Rattle.value_domain.specs.declared.values.label_sets.Labels.{Labels}
use Rattle.value_domain.specs.declared.values.row_cells.Cell.{Cell}
use Rattle.value_domain.specs.Values.LabelSets.{no_labels, labels_order, is_unlabelled, labels_leq}
use Rattle.store_cells.specs.ScalarTypes.{kind_of}
use Rattle.store_objects.specs.LiveBases.{only_base, single_bases}
use Rattle.domain_theorems.specs.Values.Consistency.{is_consistent}
use Rattle.domain_theorems.specs.Values.Consistency as consistency
use Rattle.domain_theorems.proofs.values.Flags.{Sets, flag_sets, or_sets, and_sets, not_sets}
use Rattle.domain_theorems.proofs.values.Parts.{PointersBelow, pointer_parts, pointers_below}
use Rattle.domain_theorems.proofs.values.Ranges.{RangeBelow, range_refl, sum_monotone, difference_monotone, times_monotone, bounds_monotone, of_range_monotone}
use Rattle.domain_theorems.proofs.values.Bases.{empty_below, one_base, no_count, sets_meet}
use Rattle.domain_theorems.proofs.values.Moves.{shift_monotone, narrow_monotone, pointers_compared, difference_rises}
use Rattle.domain_theorems.proofs.values.Equality.{equal_monotone}
use Rattle.store_monotone.specs.Operations.TopCells.{top_number, top_value}
use Rattle.store_monotone.specs.Operations.TopRows.{top_row}
use Rattle.store_monotone.specs.Operations.Placements.{EachFrom}
use Rattle.store_monotone.proofs.operations.CellReads.{size_is}
use Rattle.store_monotone.proofs.operations.Consistent.{some_parts, from_some, even_bare}
use Rattle.store_monotone.proofs.operations.NearCells.{near_monotone}
use Rattle.store_monotone.proofs.operations.OwnValues.{each_get}
use Rattle.store_monotone.proofs.operations.StorePlaces.{any_monotone}
use Rattle.transfer_checks.specs.PointerChecks.{moves_outside, shift_violations, are_alike, check_same_instance}
use Rattle.transfer_checks.specs.ViolationSets.{no_violations}
use Rattle.transfer_checks.specs.Temporaries.{temp_value, amount_value}
use Rattle.transfer_system.specs.PointerSteps.{is_short, address_of, address_in, address_step, touch_part, narrow_violations, narrow_touched, narrow_step, backwards_by, signed_amount, shift_checks, put_moved, shift_by, shift_step, comparison_violations, equality_violations, has_difference, difference_of, difference_between, difference_step, equality, ordered, relation, relation_step}
use Rattle.transfer_monotone.specs.Values.RisingRows.{LeftRise, PointersRise}
use Rattle.transfer_monotone.specs.Values.LaidOut.{IsLaidOut}
use Rattle.transfer_monotone.specs.Values.ViolationsBelow.{ViolationsBelow}
use Rattle.transfer_monotone.specs.Values.StepLaws.{FlowRows, Rises, Violates, PointerStepsRise, PointerChecksRise}
use Rattle.transfer_monotone.proofs.values.RisingCells.{left_if, left_unless, left_same}
use Rattle.transfer_monotone.proofs.values.Results.{number_rises, part_rises, num_rises, num_near, labels_rise, of_pointer, parts_rise, temp_rises, number_put, pointer_put_if, pointer_put, truth_put}
use Rattle.transfer_monotone.proofs.values.Touches.{outside_more, near_bounds, range_near, touch_rises, touch_violates, placed_bases}
use Rattle.transfer_monotone.proofs.values.IntegerSteps.{near_ends, negated_rises, one_near, amount_rises}
use Rattle.transfer_monotone.proofs.values.IntegerChecks.{labelled_more}
use Rattle.transfer_monotone.proofs.values.ViolationOrder.{compares_below, moves_below, points_below, same_below, same_way_below}

-- a part of a list that is there has a number below its length
pub found_below : {K : Type 0} (ks : List K) (i : ℕ) (k : K) → slice_get ks i ≡ Some k → i < length ks
found_below [] i k e = absurd (cc)
found_below (x ∷ ks) zero k e = omega arith
found_below (x ∷ ks) (suc i) k e = let r = found_below ks i k e in omega arith

-- bases that follow each other are of extents
pub extents : (first at : ℕ) (bases : List BaseInfo) → are_placed first bases ≡ true → EachFrom (λ base number. is_extent base.size ≡ true) at bases
extents first at [] h = tt
extents first at (base ∷ bases) h =
    let p = and_parts (base.first == first) (is_extent base.size && are_placed (first + base_values base) bases) h in
    let q = and_parts (is_extent base.size) (are_placed (first + base_values base) bases) p.1 in
    (q.0, extents (first + base_values base) (at + 1) bases q.1)

some_number : (p : ℤ × ℤ) (r : Range) → r ≡ Some p → is_some r ≡ true
some_number p None e = absurd (cc)
some_number p (Some q) e = refl

-- what is met of a range is in order
between_ordered : (a c : ℤ) (p : ℤ × ℤ) → range_between a c ≡ Some p → (a ≤ℤ c) × (p.0 ≡ a) × (p.1 ≡ c)
between_ordered a c p e = elim (cases_Bool (int_le a c)) [
  | inl t ↦ (let g : range_between a c ≡ Some (a, c) = cond-true (int_le a c) (Some (a, c)) None t in
      let f : Some p ≡ Some (a, c) = sym e ∙ g in
      (omega (arith, ints), ap (λ r. (unwrap_or r p).0) f, ap (λ r. (unwrap_or r p).1) f))
  | inr t ↦ absurd (let g : range_between a c ≡ None = cond-false (int_le a c) (Some (a, c)) None t in cc)
]

pub met_ordered : (x : Range) (c d : ℤ) (p : ℤ × ℤ) → range_met x c d ≡ Some p → (c ≤ℤ p.0) × (p.0 ≤ℤ p.1) × (p.1 ≤ℤ d)
met_ordered None c d p e = absurd (cc)
met_ordered (Some q) c d p e = let b = between_ordered (int_max q.0 c) (int_min q.1 d) p e in let f = b.0 in let g = b.1 in let h = b.2 in (omega (arith, ints, clamps), omega (arith, ints, clamps), omega (arith, ints, clamps))

abbrev one_of : Bases → Bases → Bases → Bool
one_of s t single = (bases_count s == 1) && (bases_within s t && (bases_within t s && bases_within s single))

module _ {I : Type 0} {l : LatticeOf I} {n : IntegersOf I} {stands : I → ℤ → Type 0} (o : OrderLaws l) (b : BoundLaws l n stands) where
  pub one_some : (a : ℤ) → is_some (n.bounds (n.one a)) ≡ true
  one_some a = some_number (a, a) (n.bounds (n.one a)) (b.one_bounds a)

  between_some : (c d : ℤ) → c ≤ℤ d → is_some (n.bounds (between_or_least l n c d)) ≡ true
  between_some c d h = cond_both (int_le c d) (n.between c d) l.least (λ x. is_some (n.bounds x) ≡ true) (λ e. some_number (c, d) (n.bounds (n.between c d)) (b.between_bounds c d h)) (λ e. absurd (grind (arith, ints)))

  no_number : (r : Range) → is_none r ≡ true → r ≡ None
  no_number None h = refl
  no_number (Some p) h = absurd (cc)

  -- a consistent pointer without a base has no bounds
  no_bounds : (p : Pointers I) → bases_empty p.bases ≡ true → is_consistent n p ≡ true → (n.bounds p.lo ≡ None) × (n.bounds p.rel ≡ None)
  no_bounds p z h =
      let f : consistency.is_nowhere n p ≡ true = subst (λ c. cond c (consistency.is_nowhere n p) (consistency.is_somewhere n p) ≡ true) z h in
      let a = and_parts (is_none (n.bounds p.lo)) _ f in
      let c = and_parts (is_none (n.bounds p.rel)) _ a.1 in
      (no_number (n.bounds p.lo) a.0, no_number (n.bounds p.rel) c.0)

  module _ (all : Bases) where
    between_near : (c d : ℤ) → negsuc (2 ^ 64 - 1) ≤ℤ c → d ≤ℤ pos (2 ^ 64) → l.leq (between_or_least l n c d) (top_number n) ≡ true
    between_near c d h k = range_near o b all (Some (c, d)) (h, k)

    -- ---- parts

    part_own : (q : Pointers I) (size : ℕ) → pointers_leq l q (top_value n all).pointer ≡ true → size ≤ longest → (r : Range) → ((p : ℤ × ℤ) → r ≡ Some p → (pos 0 ≤ℤ p.0) × (p.1 ≤ℤ the_end)) → pointers_leq l (part_at l n q size r) (top_value n all).pointer ≡ true
    part_own q size h k None m = (pointer_order o).least_below (top_value n all).pointer
    part_own q size h k (Some r) m =
        let d = pointer_parts l q (top_value n all).pointer h in
        let e = m r refl in
        pointers_below l (part_at l n q size (Some r)) (top_value n all).pointer (record {
          bases = d.bases;
          lo = between_near r.0 r.1 (let u = e.0 in omega (arith, ints)) e.1;
          rel = one_near o b (pos 0) (omega (arith, ints)) (omega (arith, ints));
          len = one_near o b (pos size) (omega (arith, ints)) (omega (arith, ints));
          part = refl;
          null = refl;
          ended = refl;
        })

    part_even : (p : Pointers I) (size : ℕ) → bases_empty p.bases ≡ false → (r : Range) → ((q : ℤ × ℤ) → r ≡ Some q → q.0 ≤ℤ q.1) → is_consistent n (part_at l n p size r) ≡ true
    part_even p size z None m = (even_bare o b false false).1
    part_even p size z (Some r) m = from_some o b (part_at l n p size (Some r)) z (record { lo = between_some r.0 r.1 (m r refl); rel = one_some (pos 0); len = one_some (pos size) })

    starts_none : (p : Pointers I) (offset size : ℕ) → n.bounds p.lo ≡ None → part_starts n p offset size ≡ None
    starts_none p offset size e = ap (λ r. range_met (range_sum (range_sum r (range_met (n.bounds p.rel) (pos 0) ((length_above n p -ℤ pos offset) -ℤ pos size))) (Some (pos offset, pos offset))) (pos 0) the_end) e

    -- the sums of which the lower bounds of a part are met
    abbrev inner_starts : Pointers I → ℕ → ℕ → Range
    inner_starts p offset size = range_sum (range_sum (n.bounds p.lo) (range_met (n.bounds p.rel) (pos 0) ((length_above n p -ℤ pos offset) -ℤ pos size))) (Some (pos offset, pos offset))

    abbrev moved_sums : Pointers I → I → ℕ → Range
    moved_sums p by scale = range_sum (n.bounds p.rel) (range_times (n.bounds by) scale)

    narrowed_even : (p : Pointers I) (offset size : ℕ) → is_consistent n p ≡ true → is_consistent n (narrowed l n p offset size) ≡ true
    narrowed_even p offset size h = by_empty (bases_empty p.bases) refl
      where
        by_empty : (z : Bool) → bases_empty p.bases ≡ z → is_consistent n (narrowed l n p offset size) ≡ true
        by_empty true z = subst (λ r. is_consistent n (part_at l n p size r) ≡ true) (sym (starts_none p offset size (no_bounds p z h).0)) (even_bare o b false false).1
        by_empty false z = part_even p size z (part_starts n p offset size) (λ q e. (met_ordered (inner_starts p offset size) (pos 0) the_end q e).1)

    pub narrowed_rises : (p q : Pointers I) → PointersRise l n all p q → (offset size : ℕ) → size ≤ longest → PointersRise l n all (narrowed l n p offset size) (narrowed l n q offset size)
    narrowed_rises p q h offset size k = record {
      below = narrow_monotone o b p q offset size h.even h.below;
      own = part_own q size h.own k (part_starts n q offset size) (λ r e. let m = met_ordered (inner_starts q offset size) (pos 0) the_end r e in (m.0, m.2));
      even = narrowed_even p offset size h.even;
    }

    -- ---- moves

    upper_near : (r : Range) → RangeBelow r (Some (negsuc (2 ^ 64 - 1), pos (2 ^ 64))) → upper_or (pos 0) r ≤ℤ pos (2 ^ 64)
    upper_near None h = omega (arith, ints)
    upper_near (Some p) h = h.1

    moved_own : (q : Pointers I) → pointers_leq l q (top_value n all).pointer ≡ true → (r : Range) → ((p : ℤ × ℤ) → r ≡ Some p → (pos 0 ≤ℤ p.0) × (p.1 ≤ℤ length_above n q)) → pointers_leq l (moved_to l n q r) (top_value n all).pointer ≡ true
    moved_own q h None m = (pointer_order o).least_below (top_value n all).pointer
    moved_own q h (Some r) m =
        let d = pointer_parts l q (top_value n all).pointer h in
        let e = m r refl in
        let u = upper_near (n.bounds q.len) (near_bounds o b all q.len d.len) in
        pointers_below l (moved_to l n q (Some r)) (top_value n all).pointer (record {
          bases = d.bases;
          lo = d.lo;
          rel = between_near r.0 r.1 (let v = e.0 in omega (arith, ints)) (let v = e.1 in omega (arith, ints));
          len = d.len;
          part = d.part;
          null = refl;
          ended = refl;
        })

    moved_even : (p : Pointers I) → is_consistent n p ≡ true → bases_empty p.bases ≡ false → (r : Range) → ((q : ℤ × ℤ) → r ≡ Some q → q.0 ≤ℤ q.1) → is_consistent n (moved_to l n p r) ≡ true
    moved_even p h z None m = (even_bare o b false false).1
    moved_even p h z (Some r) m = let s = some_parts o b p z h in from_some o b (moved_to l n p (Some r)) z (record { lo = s.lo; rel = between_some r.0 r.1 (m r refl); len = s.len })

    shifted_even : (p : Pointers I) (by : I) (scale : ℕ) → is_consistent n p ≡ true → is_consistent n (shifted l n p by scale) ≡ true
    shifted_even p by scale h = by_empty (bases_empty p.bases) refl
      where
        none_moved : n.bounds p.rel ≡ None → range_met (range_sum (n.bounds p.rel) (range_times (n.bounds by) scale)) (pos 0) (length_above n p) ≡ None
        none_moved e = ap (λ r. range_met (range_sum r (range_times (n.bounds by) scale)) (pos 0) (length_above n p)) e

        by_empty : (z : Bool) → bases_empty p.bases ≡ z → is_consistent n (shifted l n p by scale) ≡ true
        by_empty true z = subst (λ r. is_consistent n (moved_to l n p r) ≡ true) (sym (none_moved (no_bounds p z h).1)) (even_bare o b false false).1
        by_empty false z = moved_even p h z (range_met (range_sum (n.bounds p.rel) (range_times (n.bounds by) scale)) (pos 0) (length_above n p)) (λ q e. (met_ordered (moved_sums p by scale) (pos 0) (length_above n p) q e).1)

    pub shifted_rises : (p q : Pointers I) → PointersRise l n all p q → (by more : I) → l.leq by more ≡ true → (scale : ℕ) → PointersRise l n all (shifted l n p by scale) (shifted l n q more scale)
    shifted_rises p q h by more k scale = record {
      below = shift_monotone o b p q by more scale h.even h.below k;
      own = moved_own q h.own (range_met (moved_sums q more scale) (pos 0) (length_above n q)) (λ r e. let m = met_ordered (moved_sums q more scale) (pos 0) (length_above n q) r e in (m.0, m.2));
      even = shifted_even p by scale h.even;
    }

    minus_near : (r : Range) → RangeBelow r (Some (negsuc (2 ^ 64 - 1), pos (2 ^ 64))) → RangeBelow (range_difference (Some (pos 0, pos 0)) r) (Some (negsuc (2 ^ 64 - 1), pos (2 ^ 64)))
    minus_near None h = tt
    minus_near (Some p) h = let u = h.0 in let v = h.1 in (omega (arith, ints), omega (arith, ints))

    minus_top : (y : I) → l.leq y (top_number n) ≡ true → l.leq (of_range l n (range_difference (Some (pos 0, pos 0)) (n.bounds y))) (top_number n) ≡ true
    minus_top y h = range_near o b all _ (minus_near (n.bounds y) (near_bounds o b all y h))

    backwards_rises : (x y : I) → l.leq x y ≡ true → l.leq y (top_number n) ≡ true → l.leq (backwards_by l n x) (backwards_by l n y) ≡ true
    backwards_rises x y h k = near_monotone o b _ _ (of_range_monotone o b _ _ (difference_monotone (Some (pos 0, pos 0)) (n.bounds x) (Some (pos 0, pos 0)) (n.bounds y) (range_refl (Some (pos 0, pos 0))) (bounds_monotone b x y h))) (minus_top y k)

    pub amount_signed : (backwards : Bool) (x y : I) → l.leq x y ≡ true → l.leq y (top_number n) ≡ true → l.leq (signed_amount l n x backwards) (signed_amount l n y backwards) ≡ true
    amount_signed true x y h k = backwards_rises x y h k
    amount_signed false x y h k = h

    -- ---- pairs of pointers

    has_some : (p q : Pointers I) → PointersBelow l p q → is_any p ≡ true → q.null ≡ false → bases_empty p.bases ≡ false
    has_some p q h e f = elim (or_cases (not (bases_empty p.bases)) p.null e) [ inl g ↦ not-true (bases_empty p.bases) g | inr g ↦ absurd (let k = flag_sets p.null q.null h.null g in cc) ]

    same_bases : (p q : Pointers I) → PointersBelow l p q → bases_empty p.bases ≡ false → bases_count q.bases ≡ 1 → p.bases ≡ q.bases
    same_bases p q h e c = one_base p.bases q.bases h.bases (λ (z : bases_count p.bases ≡ 0). (let k = no_count p.bases z in cc)) c

    alike_less : (p q u v : Pointers I) (single : Bases) → is_any p ≡ true → is_any q ≡ true → PointersBelow l p u → PointersBelow l q v → Sets (are_alike u v single) (are_alike p q single)
    alike_less p q u v single x y h k e =
        let a = and_parts (same_one_base u v single) (not u.null && not v.null) e in
        let nulls = and_parts (not u.null) (not v.null) a.1 in
        let g = and_parts (bases_count u.bases == 1) (bases_within u.bases v.bases && (bases_within v.bases u.bases && bases_within u.bases single)) a.0 in
        let m = and_parts (bases_within u.bases v.bases) (bases_within v.bases u.bases && bases_within u.bases single) g.1 in
        let r = and_parts (bases_within v.bases u.bases) (bases_within u.bases single) m.1 in
        let same : u.bases ≡ v.bases = bases_order.antisymmetric u.bases v.bases m.0 r.0 in
        let one : bases_count u.bases ≡ 1 = eqb-true (bases_count u.bases) 1 g.0 in
        let two : bases_count v.bases ≡ 1 = subst (λ s. bases_count s ≡ 1) same one in
        let pu = same_bases p u h (has_some p u h x (not-true u.null nulls.0)) one in
        let qv = same_bases q v k (has_some q v k y (not-true v.null nulls.1)) two in
        let bases : one_of p.bases q.bases single ≡ true = subst (λ s. one_of s q.bases single ≡ true) (sym pu) (subst (λ t. one_of u.bases t single ≡ true) (sym qv) a.0) in
        and_from (one_of p.bases q.bases single) (not p.null && not q.null) bases
        (and_from (not p.null) (not q.null) (not_sets u.null p.null (flag_sets p.null u.null h.null) nulls.0) (not_sets v.null q.null (flag_sets q.null v.null k.null) nulls.1))

    two_more : (p q u v : Pointers I) (single : Bases) → PointersBelow l p u → PointersBelow l q v → Sets (is_any p && (is_any q && not (are_alike p q single))) (is_any u && (is_any v && not (are_alike u v single)))
    two_more p q u v single h k e =
        let a = and_parts (is_any p) (is_any q && not (are_alike p q single)) e in
        let c = and_parts (is_any q) (not (are_alike p q single)) a.1 in
        and_from (is_any u) _ (any_monotone o b p u h a.0) (and_from (is_any v) _ (any_monotone o b q v k c.0) (not_sets (are_alike p q single) (are_alike u v single) (alike_less p q u v single a.0 c.0 h k) c.1))

    same_instance_more : (p q u v : Pointers I) (single : Bases) → PointersBelow l p u → PointersBelow l q v → ViolationsBelow (check_same_instance p q single).violations (check_same_instance u v single).violations
    same_instance_more p q u v single h k = compares_below (p.ended || q.ended) (is_any p && (is_any q && not (are_alike p q single))) (u.ended || v.ended) (is_any u && (is_any v && not (are_alike u v single)))
        (or_sets p.ended q.ended u.ended v.ended (flag_sets p.ended u.ended h.ended) (flag_sets q.ended v.ended k.ended)) (two_more p q u v single h k)

-- what is met of a range lies between its ends
met_in : (x : Range) (c d e f : ℤ) → e ≤ℤ c → d ≤ℤ f → RangeBelow (range_met x c d) (Some (e, f))
met_in None c d e f h k = tt
met_in (Some p) c d e f h k = cond_both (int_le (int_max p.0 c) (int_min p.1 d)) (Some (int_max p.0 c, int_min p.1 d)) None (λ r. RangeBelow r (Some (e, f))) (λ t. (omega (arith, ints, clamps), omega (arith, ints, clamps))) (λ t. tt)

-- a truth value where a test holds
pub truth_if : (a c : Bool) (s t : Tri) → Sets a c → (a ≡ true → tri_leq s t ≡ true) → tri_leq (cond a s Never) (cond c t Never) ≡ true
truth_if true true s t h k = k refl
truth_if true false s t h k = absurd (let e : false ≡ true = h refl in cc)
truth_if false c s t h k = refl

some_size : (size : ℕ) → not (size == 0) ≡ true → 0 < size
some_size zero h = absurd (cc)
some_size (suc size) h = omega arith

module _ {I : Type 0} {l : LatticeOf I} {n : IntegersOf I} {stands : I → ℤ → Type 0} (o : OrderLaws l) (b : BoundLaws l n stands) (g : MonotoneLaws l n) (f : RangeLaws l n) (all : Bases) (flow : Flow) (k : IsLaidOut all flow) where
  -- ---- addresses

  address_even : (base offset size : ℕ) → (is_any (address_of n base offset size) || false) ≡ true → is_consistent n (address_of n base offset size) ≡ true
  address_even base offset size h = from_some o b (address_of n base offset size) (elim (or_cases (is_any (address_of n base offset size)) false h) [
    | inl e ↦ elim (or_cases (not (bases_empty (only_base base))) false e) [ inl t ↦ not-true (bases_empty (only_base base)) t | inr t ↦ absurd (cc) ]
    | inr e ↦ absurd (cc)
  ]) (record { lo = one_some o b (pos 0); rel = one_some o b (pos offset); len = one_some o b (pos size) })

  address_own : (base offset size : ℕ) → base < length flow.bases.items → offset ≤ 2 ^ 64 → size ≤ 2 ^ 30 → pointers_leq l (address_of n base offset size) (top_value n all).pointer ≡ true
  address_own base offset size h m s = pointers_below l (address_of n base offset size) (top_value n all).pointer (record {
    bases = k.named base h;
    lo = one_near o b (pos 0) (omega (arith, ints)) (omega (arith, ints));
    rel = one_near o b (pos offset) (omega (arith, ints)) (omega (arith, ints));
    len = one_near o b (pos size) (omega (arith, ints)) (omega (arith, ints));
    part = refl;
    null = refl;
    ended = refl;
  })

  address_rises : (to base offset : ℕ) → offset ≤ 2 ^ 64 → Rises l n all flow (λ row. address_step l n flow row to base offset)
  unfolding address_step
  address_rises to base offset m r s h = at (slice_get flow.bases.items base) refl
    where
      at : (found : Option BaseInfo) → slice_get flow.bases.items base ≡ found → LeftRise l n (top_row n all flow.bases.items flow.temps) (address_in l n flow r to base offset found) (address_in l n flow s to base offset found)
      at None e = tt
      at (Some info) e =
          let size = leb-true info.size (2 ^ 30) (each_get (λ (base : BaseInfo) number. is_extent base.size ≡ true) 0 base flow.bases.items info (extents 0 0 flow.bases.items k.layout.placed) e) in
          let own = address_own base offset info.size (found_below flow.bases.items base info e) m size in
          pointer_put_if o b all flow k r s h to (address_of n base offset info.size) (address_of n base offset info.size) ((pointer_order o).reflexive (address_of n base offset info.size))
          (λ t. record { below = (pointer_order o).reflexive (address_of n base offset info.size); own = own; even = address_even base offset info.size t })

  -- ---- parts

  touched : (r s : List (Cell I)) → FlowRows l n all flow r s → (pointer offset size : ℕ) → PointersRise l n all (touch_part l n flow r pointer offset size).rest (touch_part l n flow s pointer offset size).rest
  touched r s h pointer offset size = touch_rises o b all flow.bases.items k.named (top_row n all flow.bases.items flow.temps) r s (placed_bases o b all flow k) h _ _ (of_pointer o b all (temp_rises o b all flow k r s h pointer)) offset size false

  narrow_rises : (to pointer offset size : ℕ) → Rises l n all flow (λ row. narrow_step l n flow row to pointer offset size)
  unfolding narrow_step narrow_touched
  narrow_rises to pointer offset size r s h = left_same l n (top_row n all flow.bases.items flow.temps) (is_short offset) _ _ None None
      (λ c. left_same l n (top_row n all flow.bases.items flow.temps) (is_short size) _ _ None None
      (λ d. pointer_put o b all flow k r s h to _ _ (narrowed_rises o b all _ _ (touched r s h pointer offset size) offset size (leb-true size longest d))) (λ d. tt)) (λ c. tt)

  narrow_more : (pointer offset size : ℕ) → Violates l n all flow (λ row. narrow_violations l n flow row pointer offset size)
  narrow_more pointer offset size r s h = same_way_below (is_short offset) _ _ no_violations no_violations
      (λ c. same_way_below (is_short size) _ _ no_violations no_violations
      (λ d. touch_violates o b all flow.bases.items k.named (top_row n all flow.bases.items flow.temps) r s (placed_bases o b all flow k) h _ _ (of_pointer o b all (temp_rises o b all flow k r s h pointer)) offset size false)
      (same_below no_violations)) (same_below no_violations)

  -- ---- moves

  shift_by_rises : (r s : List (Cell I)) → FlowRows l n all flow r s → (to : ℕ) (p q : Pointers I) → PointersRise l n all p q → (by more : I) → l.leq by more ≡ true → (scale : ℕ) → LeftRise l n (top_row n all flow.bases.items flow.temps) (shift_by l n flow r to p by scale) (shift_by l n flow s to q more scale)
  unfolding shift_by put_moved
  shift_by_rises r s h to p q i by more j scale =
      let m = shifted_rises o b all p q i by more j scale in
      left_unless l n (top_row n all flow.bases.items flow.temps) (bases_empty (shifted l n p by scale).bases) (bases_empty (shifted l n q more scale).bases) _ _
      (empty_below (shifted l n p by scale).bases (shifted l n q more scale).bases (pointer_parts l (shifted l n p by scale) (shifted l n q more scale) m.below).bases)
      (λ e. pointer_put o b all flow k r s h to (shifted l n p by scale) (shifted l n q more scale) m)

  by_rises : (r s : List (Cell I)) → FlowRows l n all flow r s → (amount : Amount) (backwards : Bool) → l.leq (signed_amount l n (amount_value l n flow r amount).num backwards) (signed_amount l n (amount_value l n flow s amount).num backwards) ≡ true
  by_rises r s h amount backwards =
      let v = amount_rises o b g f all flow k r s h amount in
      amount_signed o b all backwards (amount_value l n flow r amount).num (amount_value l n flow s amount).num (num_rises o b all v) (num_near o b all v)

  shift_rises : (to pointer : ℕ) (amount : Amount) (scale : ℕ) (backwards : Bool) → Rises l n all flow (λ row. shift_step l n flow row to pointer amount scale backwards)
  unfolding shift_step
  shift_rises to pointer amount scale backwards r s h = left_same l n (top_row n all flow.bases.items flow.temps) (is_short scale) _ _ None None
      (λ c. shift_by_rises r s h to _ _ (of_pointer o b all (temp_rises o b all flow k r s h pointer)) _ _ (by_rises r s h amount backwards) scale) (λ c. tt)

  moves_more : (p q : Pointers I) → PointersBelow l p q → (by more : I) → l.leq by more ≡ true → (s t : Labels) → labels_leq s t ≡ true → (scale : ℕ) → ViolationsBelow (shift_violations n p by s scale) (shift_violations n q more t scale)
  moves_more p q c by more j s t i scale = moves_below (not (is_unlabelled s)) (p.null || p.ended) (not (bases_empty p.bases) && moves_outside n p by scale) (not (is_unlabelled t)) (q.null || q.ended) (not (bases_empty q.bases) && moves_outside n q more scale)
      (labelled_more s t i)
      (or_sets p.null p.ended q.null q.ended (flag_sets p.null q.null c.null) (flag_sets p.ended q.ended c.ended))
      (and_sets (not (bases_empty p.bases)) (moves_outside n p by scale) (not (bases_empty q.bases)) (moves_outside n q more scale) (not_sets (bases_empty p.bases) (bases_empty q.bases) (empty_below p.bases q.bases c.bases))
      (outside_more (range_sum (n.bounds p.rel) (range_times (n.bounds by) scale)) (n.bounds p.len) (range_sum (n.bounds q.rel) (range_times (n.bounds more) scale)) (n.bounds q.len)
      (sum_monotone (n.bounds p.rel) (range_times (n.bounds by) scale) (n.bounds q.rel) (range_times (n.bounds more) scale) (bounds_monotone b p.rel q.rel c.rel) (times_monotone (n.bounds by) (n.bounds more) scale (bounds_monotone b by more j))) (bounds_monotone b p.len q.len c.len)))

  shift_more : (pointer : ℕ) (amount : Amount) (scale : ℕ) (backwards : Bool) → Violates l n all flow (λ row. shift_checks l n flow row pointer amount scale backwards)
  shift_more pointer amount scale backwards r s h = same_way_below (is_short scale) _ _ no_violations no_violations
      (λ c. moves_more (temp_value l n flow r pointer).pointer (temp_value l n flow s pointer).pointer (parts_rise o b all (of_pointer o b all (temp_rises o b all flow k r s h pointer))) (signed_amount l n (amount_value l n flow r amount).num backwards) (signed_amount l n (amount_value l n flow s amount).num backwards) (by_rises r s h amount backwards) (amount_value l n flow r amount).labels (amount_value l n flow s amount).labels (labels_rise o b all (amount_rises o b g f all flow k r s h amount)) scale)
      (same_below no_violations)

  -- ---- differences and relations

  module _ (r s : List (Cell I)) (h : FlowRows l n all flow r s) (left right : ℕ) where
    first : PointersRise l n all (temp_value l n flow r left).pointer (temp_value l n flow s left).pointer
    first = part_rises o b all (temp_value l n flow r left) (temp_value l n flow s left) (temp_rises o b all flow k r s h left)

    second : PointersRise l n all (temp_value l n flow r right).pointer (temp_value l n flow s right).pointer
    second = part_rises o b all (temp_value l n flow r right) (temp_value l n flow s right) (temp_rises o b all flow k r s h right)

    comparison_more : ViolationsBelow (comparison_violations l n flow r left right) (comparison_violations l n flow s left right)
    comparison_more = same_instance_more o b all (temp_value l n flow r left).pointer (temp_value l n flow r right).pointer (temp_value l n flow s left).pointer (temp_value l n flow s right).pointer (single_bases flow.bases.items) (parts_rise o b all first) (parts_rise o b all second)

    equality_more : ViolationsBelow (equality_violations l n flow r left right) (equality_violations l n flow s left right)
    equality_more =
        let c = parts_rise o b all first in
        let d = parts_rise o b all second in
        points_below ((temp_value l n flow r left).pointer.ended || (temp_value l n flow r right).pointer.ended) ((temp_value l n flow s left).pointer.ended || (temp_value l n flow s right).pointer.ended)
        (or_sets (temp_value l n flow r left).pointer.ended (temp_value l n flow r right).pointer.ended (temp_value l n flow s left).pointer.ended (temp_value l n flow s right).pointer.ended (flag_sets (temp_value l n flow r left).pointer.ended (temp_value l n flow s left).pointer.ended c.ended) (flag_sets (temp_value l n flow r right).pointer.ended (temp_value l n flow s right).pointer.ended d.ended))

  difference_near : (p q : Pointers I) (size : ℕ) → l.leq (pointers_difference l n p q size (kind_of flow.model class.Pointer true)) (top_number n) ≡ true
  difference_near p q size = let e = near_ends (kind_of flow.model class.Pointer true) (size_is flow.model class.Pointer) in range_near o b all (range_met (range_over (range_difference (offsets n p) (offsets n q)) size) (least_of (kind_of flow.model class.Pointer true)) (greatest_of (kind_of flow.model class.Pointer true)))
      (met_in (range_over (range_difference (offsets n p) (offsets n q)) size) (least_of (kind_of flow.model class.Pointer true)) (greatest_of (kind_of flow.model class.Pointer true)) (negsuc (2 ^ 64 - 1)) (pos (2 ^ 64)) e.0 e.1)

  difference_rises_by : (r s : List (Cell I)) → FlowRows l n all flow r s → (to : ℕ) (p q u v : Pointers I) → PointersRise l n all p u → PointersRise l n all q v → (size : ℕ) → LeftRise l n (top_row n all flow.bases.items flow.temps) (difference_between l n flow r to p q size) (difference_between l n flow s to u v size)
  difference_rises_by r s h to p q u v i j size =
      let c = pointer_parts l p u i.below in
      let d = pointer_parts l q v j.below in
      left_if l n (top_row n all flow.bases.items flow.temps) (has_difference flow p q size) (has_difference flow u v size) _ _
      (and_sets (not (size == 0)) (bases_meet p.bases q.bases) (not (size == 0)) (bases_meet u.bases v.bases) (λ e. e) (sets_meet p.bases q.bases u.bases v.bases c.bases d.bases))
      (λ e. number_put o b all flow k r s h to (difference_of l n flow p q size) (difference_of l n flow u v size)
      (number_rises o b all (pointers_difference l n p q size (kind_of flow.model class.Pointer true)) (pointers_difference l n u v size (kind_of flow.model class.Pointer true)) no_labels no_labels
      (difference_rises o b p q u v size (kind_of flow.model class.Pointer true) (some_size size (and_parts (not (size == 0)) (bases_meet p.bases q.bases) e).0) i.below j.below) (difference_near u v size) (labels_order.reflexive no_labels)))

  difference_step_rises : (to left right size : ℕ) → Rises l n all flow (λ row. difference_step l n flow row to left right size)
  unfolding difference_step
  difference_step_rises to left right size r s h = difference_rises_by r s h to _ _ _ _ (first r s h left right) (second r s h left right) size

  ordered_rises : (rel : Rel) (p q u v : Pointers I) → PointersRise l n all p u → PointersRise l n all q v → tri_leq (ordered l n flow rel p q) (ordered l n flow rel u v) ≡ true
  ordered_rises rel p q u v i j =
      let c = pointer_parts l p u i.below in
      let d = pointer_parts l q v j.below in
      truth_if (bases_meet p.bases q.bases) (bases_meet u.bases v.bases) _ _ (sets_meet p.bases q.bases u.bases v.bases c.bases d.bases) (λ e. pointers_compared o b g rel p q u v i.below j.below)

  equal_rises : (p q u v : Pointers I) → PointersRise l n all p u → PointersRise l n all q v → tri_leq (equality n flow p q) (equality n flow u v) ≡ true
  equal_rises p q u v i j = equal_monotone o b p q u v (single_bases flow.bases.items) i.even j.even i.below j.below

  relation_rises : (rel : Rel) (p q u v : Pointers I) → PointersRise l n all p u → PointersRise l n all q v → tri_leq (relation l n flow rel p q) (relation l n flow rel u v) ≡ true
  relation_rises Eq p q u v i j = equal_rises p q u v i j
  relation_rises Ne p q u v i j = negated_rises (equality n flow p q) (equality n flow u v) (equal_rises p q u v i j)
  relation_rises Lt p q u v i j = ordered_rises Lt p q u v i j
  relation_rises Le p q u v i j = ordered_rises Le p q u v i j
  relation_rises Gt p q u v i j = ordered_rises Gt p q u v i j
  relation_rises Ge p q u v i j = ordered_rises Ge p q u v i j

  relation_step_rises : (to : ℕ) (rel : Rel) (left right : ℕ) → Rises l n all flow (λ row. relation_step l n flow row to rel left right)
  unfolding relation_step
  relation_step_rises to rel left right r s h = truth_put o b all flow k r s h to g _ _ (relation_rises rel _ _ _ _ (first r s h left right) (second r s h left right))

  pub pointer_steps : PointerStepsRise l n all flow
  pointer_steps = record { address = address_rises; narrow = narrow_rises; shift = shift_rises; difference = difference_step_rises; relation = relation_step_rises }

  pub pointer_checks : PointerChecksRise l n all flow
  pointer_checks = record { narrow = narrow_more; shift = shift_more; comparison = λ left right r s h. comparison_more r s h left right; equality = λ left right r s h. equality_more r s h left right }
