-- Pointer parts that are moved, narrowed, compared and subtracted.
use Rattle.std.specs.Prelude.{◌≡◌, ℕ, ◌<◌, ℤ, pos, ◌-ℤ◌, ◌≤ℤ◌, Bool, true, false, cond, is_none, is_some, Some, None, refl}
use Rattle.std.proofs.Common.{arith, subst}
use Rattle.std.proofs.lemmas.Int.{ints}
use lib.Signed.{≤ℤ_refl}
use Rattle.std.proofs.lemmas.Bool.{and_parts}
use Rattle.cc_base.specs.Lattices.{LatticeOf, OrderLaws}
use Rattle.cc_base.specs.IntegerTypes.{least_of, greatest_of}
use Rattle.cc_base.specs.IntegerDomains.{IntegersOf, BoundLaws}
use Rattle.cc_base.specs.IntegerLaws.{MonotoneLaws, tri_leq}
use Rattle.cc_base.specs.NumberRanges.{Range, range_sum, range_times, range_met}
use Rattle.cc_base.specs.declared.int_types.IntType.{IntType}
use Rattle.cc_base.specs.declared.integer_operators.Rel.{Rel}
use Rattle.pointer_domain.specs.BaseSets.{bases_empty}
use Rattle.pointer_domain.specs.PointerLattice.{pointers_leq, pointer_order}
use Rattle.pointer_domain.specs.PointerTables.{the_end, offsets, moved_to, length_above, shifted, part_starts, part_at, narrowed, pointers_compare, pointers_difference}
use Rattle.pointer_domain.specs.declared.pointer_sets.Pointers.{Pointers}
use Rattle.domain_theorems.specs.Values.Consistency.{is_nowhere, is_somewhere, is_consistent}
use Rattle.domain_theorems.proofs.values.Parts.{PointersBelow, pointer_parts, pointers_below}
use Rattle.domain_theorems.proofs.values.Ranges.{RangeBelow, range_refl, sum_monotone, difference_monotone, times_monotone, over_monotone, met_monotone, upper_monotone, bounds_monotone, of_range_monotone}

module _ {I : Type 0} {l : LatticeOf I} {n : IntegersOf I} {stands : I → ℤ → Type 0} (o : OrderLaws l) (b : BoundLaws l n stands) where
  pub offsets_monotone : (p q : Pointers I) → PointersBelow l p q → RangeBelow (offsets n p) (offsets n q)
  offsets_monotone p q h = sum_monotone (n.bounds p.lo) (n.bounds p.rel) (n.bounds q.lo) (n.bounds q.rel) (bounds_monotone b p.lo q.lo h.lo) (bounds_monotone b p.rel q.rel h.rel)

  -- ---- a consistent pointer that has an offset has a length

  none_or_some : (r s : Range) → is_none r ≡ true → (p : ℤ × ℤ) → r ≡ Some p → (q : ℤ × ℤ) × (s ≡ Some q)
  none_or_some None s h p e = cc
  none_or_some (Some r) s h p e = cc

  some_of : (s : Range) → is_some s ≡ true → (q : ℤ × ℤ) × (s ≡ Some q)
  some_of None h = cc
  some_of (Some q) h = (q, refl)

  has_length : (p : Pointers I) (empty : Bool) → cond empty (is_nowhere n p) (is_somewhere n p) ≡ true → (r : ℤ × ℤ) → n.bounds p.rel ≡ Some r → (q : ℤ × ℤ) × (n.bounds p.len ≡ Some q)
  has_length p true c r e =
      let x = and_parts _ _ c in
      let y = and_parts _ _ x.1 in
      none_or_some (n.bounds p.rel) (n.bounds p.len) y.0 r e
  has_length p false c r e =
      let x = and_parts _ _ c in
      let y = and_parts _ _ x.1 in
      some_of (n.bounds p.len) y.1

  length_rises : (p q : Pointers I) → is_consistent n p ≡ true → PointersBelow l p q → (r : ℤ × ℤ) → n.bounds p.rel ≡ Some r → length_above n p ≤ℤ length_above n q
  length_rises p q c h r e =
      let m = has_length p (bases_empty p.bases) c r e in
      upper_monotone (n.bounds p.len) (n.bounds q.len) (bounds_monotone b p.len q.len h.len) m.0 m.1

  -- ---- moved

  moved_monotone : (p q : Pointers I) (r s : Range) → PointersBelow l p q → RangeBelow r s → pointers_leq l (moved_to l n p r) (moved_to l n q s) ≡ true
  moved_monotone p q None s h k = (pointer_order o).least_below (moved_to l n q s)
  moved_monotone p q (Some r) None h k = absurd k
  moved_monotone p q (Some r) (Some s) h k = pointers_below l (moved_to l n p (Some r)) (moved_to l n q (Some s)) (record {
    bases = h.bases;
    lo = h.lo;
    rel = of_range_monotone o b (Some r) (Some s) k;
    len = h.len;
    part = h.part;
    null = refl;
    ended = refl;
  })

  -- the places where it may be, where it has an offset
  places_monotone : (p q : Pointers I) (by more : I) (scale : ℕ) → is_consistent n p ≡ true → PointersBelow l p q → l.leq by more ≡ true → (x : Range) → n.bounds p.rel ≡ x
      → RangeBelow (range_met (range_sum x (range_times (n.bounds by) scale)) (pos 0) (length_above n p)) (range_met (range_sum (n.bounds q.rel) (range_times (n.bounds more) scale)) (pos 0) (length_above n q))
  places_monotone p q by more scale c h k None e = tt
  places_monotone p q by more scale c h k (Some r) e = met_monotone _ _ (pos 0) (length_above n p) (pos 0) (length_above n q)
      (sum_monotone (Some r) (range_times (n.bounds by) scale) (n.bounds q.rel) (range_times (n.bounds more) scale)
      (subst (λ z. RangeBelow z (n.bounds q.rel)) e (bounds_monotone b p.rel q.rel h.rel))
      (times_monotone (n.bounds by) (n.bounds more) scale (bounds_monotone b by more k)))
      (≤ℤ_refl (pos 0)) (length_rises p q c h r e)

  pub shift_monotone : (p q : Pointers I) (by more : I) (scale : ℕ) → is_consistent n p ≡ true → pointers_leq l p q ≡ true → l.leq by more ≡ true → pointers_leq l (shifted l n p by scale) (shifted l n q more scale) ≡ true
  shift_monotone p q by more scale c h k = let g = pointer_parts l p q h in moved_monotone p q _ _ g (places_monotone p q by more scale c g k (n.bounds p.rel) refl)

  -- ---- narrowed

  part_monotone : (p q : Pointers I) (size : ℕ) (r s : Range) → PointersBelow l p q → RangeBelow r s → pointers_leq l (part_at l n p size r) (part_at l n q size s) ≡ true
  part_monotone p q size None s h k = (pointer_order o).least_below (part_at l n q size s)
  part_monotone p q size (Some r) None h k = absurd k
  part_monotone p q size (Some r) (Some s) h k = pointers_below l (part_at l n p size (Some r)) (part_at l n q size (Some s)) (record {
    bases = h.bases;
    lo = of_range_monotone o b (Some r) (Some s) k;
    rel = o.reflexive (n.one (pos 0));
    len = o.reflexive (n.one (pos size));
    part = refl;
    null = refl;
    ended = refl;
  })

  inner_monotone : (p q : Pointers I) (offset size : ℕ) → is_consistent n p ≡ true → PointersBelow l p q → (x : Range) → n.bounds p.rel ≡ x
      → RangeBelow (range_met x (pos 0) ((length_above n p -ℤ pos offset) -ℤ pos size)) (range_met (n.bounds q.rel) (pos 0) ((length_above n q -ℤ pos offset) -ℤ pos size))
  inner_monotone p q offset size c h None e = tt
  inner_monotone p q offset size c h (Some r) e =
      let m = length_rises p q c h r e in
      met_monotone (Some r) (n.bounds q.rel) (pos 0) ((length_above n p -ℤ pos offset) -ℤ pos size) (pos 0) ((length_above n q -ℤ pos offset) -ℤ pos size) (subst (λ z. RangeBelow z (n.bounds q.rel)) e (bounds_monotone b p.rel q.rel h.rel)) (≤ℤ_refl (pos 0)) (omega (arith, ints))

  starts_monotone : (p q : Pointers I) (offset size : ℕ) → is_consistent n p ≡ true → PointersBelow l p q → RangeBelow (part_starts n p offset size) (part_starts n q offset size)
  starts_monotone p q offset size c h = met_monotone _ _ (pos 0) the_end (pos 0) the_end
      (sum_monotone _ (Some (pos offset, pos offset)) _ (Some (pos offset, pos offset))
      (sum_monotone (n.bounds p.lo) _ (n.bounds q.lo) _ (bounds_monotone b p.lo q.lo h.lo) (inner_monotone p q offset size c h (n.bounds p.rel) refl))
      (range_refl (Some (pos offset, pos offset))))
      (≤ℤ_refl (pos 0)) (≤ℤ_refl the_end)

  pub narrow_monotone : (p q : Pointers I) (offset size : ℕ) → is_consistent n p ≡ true → pointers_leq l p q ≡ true → pointers_leq l (narrowed l n p offset size) (narrowed l n q offset size) ≡ true
  narrow_monotone p q offset size c h = let g = pointer_parts l p q h in part_monotone p q size _ _ g (starts_monotone p q offset size c g)

  -- ---- compared and subtracted

  pub pointers_compared : MonotoneLaws l n → (rel : Rel) (p q u v : Pointers I) → pointers_leq l p u ≡ true → pointers_leq l q v ≡ true → tri_leq (pointers_compare l n rel p q) (pointers_compare l n rel u v) ≡ true
  pointers_compared m rel p q u v h k = m.compare_monotone rel _ _ _ _
      (of_range_monotone o b _ _ (offsets_monotone p u (pointer_parts l p u h)))
      (of_range_monotone o b _ _ (offsets_monotone q v (pointer_parts l q v k)))

  pub difference_rises : (p q u v : Pointers I) (size : ℕ) (kind : IntType) → 0 < size → pointers_leq l p u ≡ true → pointers_leq l q v ≡ true → l.leq (pointers_difference l n p q size kind) (pointers_difference l n u v size kind) ≡ true
  difference_rises p q u v size kind s h k = of_range_monotone o b _ _ (met_monotone _ _ (least_of kind) (greatest_of kind) (least_of kind) (greatest_of kind)
      (over_monotone _ _ size s (difference_monotone _ _ _ _ (offsets_monotone p u (pointer_parts l p u h)) (offsets_monotone q v (pointer_parts l q v k))))
      (≤ℤ_refl (least_of kind)) (≤ℤ_refl (greatest_of kind)))
