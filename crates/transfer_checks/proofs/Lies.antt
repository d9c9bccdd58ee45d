-- What is known of the ranges that the checks form.
use Rattle.std.proofs.Common.{◌≡◌, ℕ, ◌+◌, ◌*◌, ◌^◌, ◌≤◌, ℤ, pos, neg_ℤ, ◌≤ℤ◌, arith, sym, subst}
use Rattle.std.proofs.lemmas.Int.{ints}
use Rattle.cc_base.specs.Lattices.{LatticeOf}
use Rattle.cc_base.specs.IntegerDomains.{IntegersOf, IsNear, BoundLaws, near_lies}
use Rattle.cc_base.specs.NumberRanges.{Range, range_times, LiesWithin, lies_times, lies_more, lies_upper}
use Rattle.pointer_domain.specs.declared.pointer_sets.Pointers.{Pointers}
use Rattle.pointer_domain.specs.PointerTables.{IsNearPointer, length_above, longest}
use Rattle.transfer_checks.specs.Touches.{span_of}

pub span_lies : (r : Range) (offset size : ℕ) → r ≡ span_of offset size → offset ≤ longest → size ≤ longest → LiesWithin (longest + longest) r
span_lies r offset size e h k = let s : LiesWithin (longest + longest) (span_of offset size) = (omega (arith, ints), omega (arith, ints), omega (arith, ints)) in subst (LiesWithin (longest + longest)) (sym e) s

pub times_lies : (x : Range) (f : ℕ) → LiesWithin (2 ^ 64) x → f ≤ longest → LiesWithin (2 ^ 64 * longest) (range_times x f)
times_lies x f h k = lies_more (range_times x f) (2 ^ 64 * f) (2 ^ 64 * longest) (omega arith) (lies_times x (2 ^ 64) f h)

module _ {I : Type 0} {l : LatticeOf I} {n : IntegersOf I} {stands : I → ℤ → Type 0} (o : BoundLaws l n stands) where
  pub bounds_lie : (x : I) (r : Range) → r ≡ n.bounds x → IsNear (n.bounds x) → LiesWithin (2 ^ 64) r
  bounds_lie x r e h = subst (LiesWithin (2 ^ 64)) (sym e) (near_lies o x h)

  pub length_lies : (p : Pointers I) → IsNearPointer n p → (neg_ℤ (pos (2 ^ 64)) ≤ℤ length_above n p) × (length_above n p ≤ℤ pos (2 ^ 64))
  length_lies p h = lies_upper (n.bounds p.len) (2 ^ 64) (near_lies o p.len h.len)
