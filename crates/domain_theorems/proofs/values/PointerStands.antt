-- Pointer parts stand for the pointers that are moved, narrowed, compared and subtracted.
use Rattle.std.specs.Prelude.{◌≡◌, ℕ, ◌<◌, ℤ, pos, ◌+ℤ◌, ◌-ℤ◌, ◌*ℤ◌, ◌≤ℤ◌, int_le, int_div, true, false, Some, None}
use Rattle.std.proofs.Common.{arith, subst}
use Rattle.std.proofs.lemmas.Int.{ints}
use Rattle.std.proofs.lemmas.Bool.{and_parts}
use lib.Signed.{≤ℤ_refl}
use Rattle.cc_base.specs.Lattices.{LatticeOf}
use Rattle.cc_base.specs.IntegerTypes.{in_type, least_of, greatest_of}
use Rattle.cc_base.specs.IntegerDomains.{IntegersOf, BoundLaws, of_range}
use Rattle.cc_base.specs.IntegerLaws.{SoundLaws}
use Rattle.cc_base.specs.MachineArithmetic.{holds}
use Rattle.cc_base.specs.Truths.{can_hold, can_fail}
use Rattle.cc_base.specs.NumberRanges.{Range, range_sum, range_difference, range_times, range_over, range_met}
use Rattle.cc_base.specs.declared.int_types.IntType.{IntType}
use Rattle.cc_base.specs.declared.integer_operators.Rel.{Rel}
use Rattle.pointer_domain.specs.PointerTables.{the_end, offsets, moved_to, length_above, shifted, part_starts, part_at, narrowed, pointers_compare, pointers_difference}
use Rattle.pointer_domain.specs.declared.pointer_sets.Pointers.{Pointers}
use Rattle.domain_theorems.specs.Values.Meaning.{IsInto}
use Rattle.domain_theorems.proofs.values.Ranges.{le_true}
use Rattle.domain_theorems.proofs.values.Numbers.{RangeHas, sum_has, difference_has, times_has, over_has, met_has, upper_above, bounds_have, of_range_stands}

-- ---- equations of offsets

moved_is : (offset low m : ℤ) → ((offset -ℤ low) +ℤ m) ≡ ((offset +ℤ m) -ℤ low)
moved_is offset low m = omega (arith, ints)

offset_is : (low offset : ℤ) → (low +ℤ (offset -ℤ low)) ≡ offset
offset_is low offset = omega (arith, ints)

start_is : (low offset m : ℤ) → ((low +ℤ (offset -ℤ low)) +ℤ m) ≡ (offset +ℤ m)
start_is low offset m = omega (arith, ints)

nothing_is : (z : ℤ) → pos 0 ≡ (z -ℤ z)
nothing_is z = omega (arith, ints)

size_is : (z m : ℤ) → m ≡ ((z +ℤ m) -ℤ z)
size_is z m = omega (arith, ints)

module _ {I : Type 0} {l : LatticeOf I} {n : IntegersOf I} {stands : I → ℤ → Type 0} (b : BoundLaws l n stands) where
  length_has : (p : Pointers I) (base : ℕ) (low offset high : ℤ) → IsInto stands p base low offset high → (high -ℤ low) ≤ℤ length_above n p
  length_has p base low offset high h = upper_above (n.bounds p.len) (high -ℤ low) (bounds_have b p.len (high -ℤ low) h.room)

  pub offsets_have : (p : Pointers I) (base : ℕ) (low offset high : ℤ) → IsInto stands p base low offset high → RangeHas (offsets n p) offset
  offsets_have p base low offset high h = subst (RangeHas (offsets n p)) (offset_is low offset)
      (sum_has (n.bounds p.lo) (n.bounds p.rel) low (offset -ℤ low) (bounds_have b p.lo low h.lower) (bounds_have b p.rel (offset -ℤ low) h.relative))

  -- ---- moved

  moved_stands : (p : Pointers I) (r : Range) (base : ℕ) (low offset high z : ℤ) → IsInto stands p base low offset high → RangeHas r (z -ℤ low) → IsInto stands (moved_to l n p r) base low z high
  moved_stands p None base low offset high z h k = absurd k
  moved_stands p (Some r) base low offset high z h k = record { among = h.among; lower = h.lower; relative = of_range_stands b (Some r) (z -ℤ low) k; room = h.room }

  pub shift_stands : (p : Pointers I) (by : I) (scale base : ℕ) (low offset high k : ℤ) → IsInto stands p base low offset high → stands by k → low ≤ℤ (offset +ℤ (k *ℤ pos scale)) → (offset +ℤ (k *ℤ pos scale)) ≤ℤ high → IsInto stands (shifted l n p by scale) base low (offset +ℤ (k *ℤ pos scale)) high
  shift_stands p by scale base low offset high k h j c d =
      let m : ℤ = k *ℤ pos scale in
      let e = length_has p base low offset high h in
      let f : RangeHas (range_sum (n.bounds p.rel) (range_times (n.bounds by) scale)) ((offset +ℤ m) -ℤ low) = subst (RangeHas (range_sum (n.bounds p.rel) (range_times (n.bounds by) scale))) (moved_is offset low m)
      (sum_has (n.bounds p.rel) (range_times (n.bounds by) scale) (offset -ℤ low) m (bounds_have b p.rel (offset -ℤ low) h.relative) (times_has (n.bounds by) k scale (bounds_have b by k j))) in
      moved_stands p _ base low offset high (offset +ℤ m) h (met_has (range_sum (n.bounds p.rel) (range_times (n.bounds by) scale)) (pos 0) (length_above n p) ((offset +ℤ m) -ℤ low) f (natural low (offset +ℤ m) c) (within low (offset +ℤ m) high (length_above n p) d e))
    where
      natural : (low z : ℤ) → low ≤ℤ z → pos 0 ≤ℤ (z -ℤ low)
      natural low z h = omega (arith, ints)

      within : (low z high most : ℤ) → z ≤ℤ high → (high -ℤ low) ≤ℤ most → (z -ℤ low) ≤ℤ most
      within low z high most h k = omega (arith, ints)

  -- ---- narrowed

  part_stands : (p : Pointers I) (size : ℕ) (r : Range) (base : ℕ) (low offset high z : ℤ) → IsInto stands p base low offset high → RangeHas r z → IsInto stands (part_at l n p size r) base z z (z +ℤ pos size)
  part_stands p size None base low offset high z h k = absurd k
  part_stands p size (Some r) base low offset high z h k = record {
    among = h.among;
    lower = of_range_stands b (Some r) z k;
    relative = subst (stands (n.one (pos 0))) (nothing_is z) (b.one_stands (pos 0));
    room = subst (stands (n.one (pos size))) (size_is z (pos size)) (b.one_stands (pos size));
  }

  starts_have : (p : Pointers I) (from size base : ℕ) (low offset high : ℤ) → IsInto stands p base low offset high → low ≤ℤ offset → ((offset +ℤ pos from) +ℤ pos size) ≤ℤ high → pos 0 ≤ℤ (offset +ℤ pos from) → (offset +ℤ pos from) ≤ℤ the_end
      → RangeHas (part_starts n p from size) (offset +ℤ pos from)
  starts_have p from size base low offset high h c d e f =
      let g = length_has p base low offset high h in
      let inner : RangeHas (range_met (n.bounds p.rel) (pos 0) ((length_above n p -ℤ pos from) -ℤ pos size)) (offset -ℤ low) =
      met_has (n.bounds p.rel) (pos 0) ((length_above n p -ℤ pos from) -ℤ pos size) (offset -ℤ low) (bounds_have b p.rel (offset -ℤ low) h.relative) (omega (arith, ints)) (omega (arith, ints)) in
      let sum = sum_has (n.bounds p.lo) (range_met (n.bounds p.rel) (pos 0) ((length_above n p -ℤ pos from) -ℤ pos size)) low (offset -ℤ low) (bounds_have b p.lo low h.lower) inner in
      let all = sum_has (range_sum (n.bounds p.lo) (range_met (n.bounds p.rel) (pos 0) ((length_above n p -ℤ pos from) -ℤ pos size))) (Some (pos from, pos from)) (low +ℤ (offset -ℤ low)) (pos from) sum (≤ℤ_refl (pos from), ≤ℤ_refl (pos from)) in
      met_has _ (pos 0) the_end (offset +ℤ pos from)
      (subst (RangeHas (range_sum (range_sum (n.bounds p.lo) (range_met (n.bounds p.rel) (pos 0) ((length_above n p -ℤ pos from) -ℤ pos size))) (Some (pos from, pos from)))) (start_is low offset (pos from)) all) e f

  pub narrow_stands : (p : Pointers I) (from size base : ℕ) (low offset high : ℤ) → IsInto stands p base low offset high → low ≤ℤ offset → ((offset +ℤ pos from) +ℤ pos size) ≤ℤ high → pos 0 ≤ℤ (offset +ℤ pos from) → (offset +ℤ pos from) ≤ℤ the_end
      → IsInto stands (narrowed l n p from size) base (offset +ℤ pos from) (offset +ℤ pos from) ((offset +ℤ pos from) +ℤ pos size)
  narrow_stands p from size base low offset high h c d e f = part_stands p size (part_starts n p from size) base low offset high (offset +ℤ pos from) h (starts_have p from size base low offset high h c d e f)

  -- ---- compared and subtracted

  offset_stands : (p : Pointers I) (base : ℕ) (low offset high : ℤ) → IsInto stands p base low offset high → stands (of_range l n (offsets n p)) offset
  offset_stands p base low offset high h = of_range_stands b (offsets n p) offset (offsets_have p base low offset high h)

  module _ (s : SoundLaws l n stands) (rel : Rel) (p q : Pointers I) (base other : ℕ) (low offset high least place most : ℤ) (h : IsInto stands p base low offset high) (k : IsInto stands q other least place most) where
    pub compared_holds : holds rel offset place ≡ true → can_hold (pointers_compare l n rel p q) ≡ true
    compared_holds e = s.compare_holds rel (of_range l n (offsets n p)) (of_range l n (offsets n q)) offset place (offset_stands p base low offset high h) (offset_stands q other least place most k) e

    pub compared_fails : holds rel offset place ≡ false → can_fail (pointers_compare l n rel p q) ≡ true
    compared_fails e = s.compare_fails rel (of_range l n (offsets n p)) (of_range l n (offsets n q)) offset place (offset_stands p base low offset high h) (offset_stands q other least place most k) e

  pub difference_stands : (p q : Pointers I) (base other size : ℕ) (kind : IntType) (low offset high least place most : ℤ) → 0 < size → IsInto stands p base low offset high → IsInto stands q other least place most → in_type kind (int_div (offset -ℤ place) (pos size)) ≡ true → stands (pointers_difference l n p q size kind) (int_div (offset -ℤ place) (pos size))
  difference_stands p q base other size kind low offset high least place most o h k e =
      let t = and_parts (int_le (least_of kind) (int_div (offset -ℤ place) (pos size))) (int_le (int_div (offset -ℤ place) (pos size)) (greatest_of kind)) e in
      of_range_stands b (range_met (range_over (range_difference (offsets n p) (offsets n q)) size) (least_of kind) (greatest_of kind)) (int_div (offset -ℤ place) (pos size))
      (met_has (range_over (range_difference (offsets n p) (offsets n q)) size) (least_of kind) (greatest_of kind) (int_div (offset -ℤ place) (pos size))
      (over_has (range_difference (offsets n p) (offsets n q)) (offset -ℤ place) size o (difference_has (offsets n p) (offsets n q) offset place (offsets_have p base low offset high h) (offsets_have q other least place most k)))
      (le_true (least_of kind) (int_div (offset -ℤ place) (pos size)) t.0) (le_true (int_div (offset -ℤ place) (pos size)) (greatest_of kind) t.1))
