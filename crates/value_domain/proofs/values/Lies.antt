-- What is known of the bounds of a value that is near.
use Rattle.std.proofs.Common.{◌≡◌, ◌^◌, ℤ, sym, subst}
use Rattle.cc_base.specs.Lattices.{LatticeOf}
use Rattle.cc_base.specs.IntegerDomains.{IntegersOf, IsNear, BoundLaws, near_lies}
use Rattle.cc_base.specs.NumberRanges.{Range, LiesWithin}

module _ {I : Type 0} {l : LatticeOf I} {n : IntegersOf I} {stands : I → ℤ → Type 0} (o : BoundLaws l n stands) where
  pub bounds_lie : (x : I) (r : Range) → r ≡ n.bounds x → IsNear (n.bounds x) → LiesWithin (2 ^ 64) r
  bounds_lie x r e h = subst (LiesWithin (2 ^ 64)) (sym e) (near_lies o x h)
