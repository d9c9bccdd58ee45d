-- Sums that stay within 128 bits, and values by their bounds.
use Rattle.std.specs.Prelude.{◌≡◌, ℤ, pos, negsuc, ◌≤ℤ◌, true, Some, None}
use Rattle.std.specs.Int.{w128, saturate_signed}
use Rattle.std.proofs.Common.{arith, subst, sym, refl}
use Rattle.std.proofs.lemmas.Int.{ints}
use Rattle.cc_base.specs.Lattices.{LatticeOf, OrderLaws}
use Rattle.cc_base.specs.IntegerDomains.{IntegersOf, BoundLaws}
use Rattle.cc_base.specs.NumberRanges.{Range}
use Rattle.store_cells.specs.AccessWindows.{added_ranges}
use Rattle.domain_theorems.proofs.values.Ranges.{RangeBelow}

pub saturate_monotone : (a b : ℤ) → a ≤ℤ b → saturate_signed w128 a ≤ℤ saturate_signed w128 b
saturate_monotone (pos a) (pos b) h = omega (arith, ints)
saturate_monotone (pos a) (negsuc b) h = absurd (omega (arith, ints))
saturate_monotone (negsuc a) (pos b) h = omega (arith, ints)
saturate_monotone (negsuc a) (negsuc b) h = omega (arith, ints)

pub added_monotone : (x y u v : Range) → RangeBelow x u → RangeBelow y v → RangeBelow (added_ranges x y) (added_ranges u v)
added_monotone None y u v h k = tt
added_monotone (Some p) None u v h k = tt
added_monotone (Some p) (Some q) None v h k = absurd h
added_monotone (Some p) (Some q) (Some r) None h k = absurd k
added_monotone (Some p) (Some q) (Some r) (Some s) h k = (saturate_monotone _ _ (omega (arith, ints)), saturate_monotone _ _ (omega (arith, ints)))

module _ {I : Type 0} {l : LatticeOf I} {n : IntegersOf I} {stands : I → ℤ → Type 0} (o : OrderLaws l) (b : BoundLaws l n stands) where
  -- bounds within two numbers make a value below those between them
  pub below_of_bounds : (x : I) (c d : ℤ) → RangeBelow (n.bounds x) (Some (c, d)) → l.leq x (n.between c d) ≡ true
  below_of_bounds x c d h = below_at (n.bounds x) refl h
    where
      below_at : (r : Range) → n.bounds x ≡ r → RangeBelow r (Some (c, d)) → l.leq x (n.between c d) ≡ true
      below_at None e k = subst (λ z. l.leq z (n.between c d) ≡ true) (sym (b.only_least x e)) (o.least_below (n.between c d))
      below_at (Some p) e k = b.below_between x p.0 p.1 c d e k.0 k.1
