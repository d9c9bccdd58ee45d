-- What is known of the ranges that the steps form.
use Rattle.std.proofs.Common.{◌≡◌, ℕ, ◌^◌, ℤ, pos, Some, sym, subst, arith}
use Rattle.std.proofs.lemmas.Int.{ints}
use Rattle.cc_base.specs.Lattices.{LatticeOf}
use Rattle.cc_base.specs.IntegerDomains.{IntegersOf, IsNear, BoundLaws, near_lies}
use Rattle.cc_base.specs.NumberRanges.{Range, LiesWithin}

pub zero_lies : LiesWithin (2 ^ 64) (Some (pos 0, pos 0))
zero_lies = (omega (arith, ints), omega (arith, ints), omega (arith, ints))

module _ {I : Type 0} {l : LatticeOf I} {n : IntegersOf I} {stands : I → ℤ → Type 0} (o : BoundLaws l n stands) where
  pub bounds_lie : (x : I) (r : Range) → r ≡ n.bounds x → IsNear (n.bounds x) → LiesWithin (2 ^ 64) r
  bounds_lie x r e h = subst (LiesWithin (2 ^ 64)) (sym e) (near_lies o x h)
