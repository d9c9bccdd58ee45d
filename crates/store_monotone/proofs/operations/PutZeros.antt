-- First zeros behind a character that is written stay from 0 to the end.
use Rattle.std.specs.Prelude.{◌≡◌, ℤ, pos, true, Some, refl}
use Rattle.std.proofs.Common.{arith, subst, sym}
use Rattle.std.proofs.lemmas.Int.{ints}
use Rattle.cc_base.specs.Lattices.{LatticeOf, OrderLaws}
use Rattle.cc_base.specs.IntegerDomains.{IntegersOf, BoundLaws, of_range}
use Rattle.cc_base.specs.IntegerLaws.{tri_leq}
use Rattle.cc_base.specs.declared.integer_operators.Tri.{Tri}
use Rattle.cc_base.specs.declared.integer_operators.Tri.TheVariants.{No, Yes, Both, Never}
use Rattle.value_domain.specs.Strings.FirstZeros.{the_end, zero_of}
use Rattle.value_domain.specs.Strings.ZeroTables.{must_be_zero, cannot_be_zero, in_both, put_at}
use Rattle.value_domain.specs.declared.strings.first_zeros.FirstZero.{FirstZero}
use Rattle.domain_theorems.proofs.values.Ranges.{RangeBelow, of_range_monotone}
use Rattle.domain_theorems.proofs.values.Zeros as zeros

all_truths : (t : Tri) → tri_leq t Both ≡ true
all_truths No = refl
all_truths Yes = refl
all_truths Both = refl
all_truths Never = refl

module _ {I : Type 0} {l : LatticeOf I} {n : IntegersOf I} {stands : I → ℤ → Type 0} (o : OrderLaws l) (b : BoundLaws l n stands) where
  bounds_are : n.bounds (n.between (pos 0) the_end) ≡ Some (pos 0, the_end)
  bounds_are = b.between_bounds (pos 0) the_end (omega (arith, ints))

  -- both tables, of all offsets and first zeros, give no more than all
  table_top : (g : (ℤ × ℤ) → (ℤ × ℤ) → (ℤ × ℤ)) → RangeBelow (Some (g (pos 0, the_end) (pos 0, the_end))) (Some (pos 0, the_end))
      → l.leq (of_range l n (in_both g (n.bounds (n.between (pos 0) the_end)) (n.bounds (n.between (pos 0) the_end)))) (n.between (pos 0) the_end) ≡ true
  table_top g h = subst (λ r. l.leq (of_range l n (in_both g r r)) (n.between (pos 0) the_end) ≡ true) (sym bounds_are) (of_range_monotone o b (Some (g (pos 0, the_end) (pos 0, the_end))) (Some (pos 0, the_end)) h)

  whole_top : l.leq (put_at l n (zero_of (n.between (pos 0) the_end)) (n.between (pos 0) the_end) Both).at (n.between (pos 0) the_end) ≡ true
  whole_top = o.join_least _ _ (n.between (pos 0) the_end)
      (table_top must_be_zero (omega (arith, ints), omega (arith, ints)))
      (table_top cannot_be_zero (omega (arith, ints), omega (arith, ints)))

  module _ (f d : FirstZero I) (at bt : I) (i : l.leq f.at d.at ≡ true) (j : l.leq at bt ≡ true) (k : l.leq d.at (n.between (pos 0) the_end) ≡ true) (m : l.leq bt (n.between (pos 0) the_end) ≡ true) where
    pub put_monotone : (s t : Tri) → tri_leq s t ≡ true → l.leq (put_at l n f at s).at (put_at l n d bt t).at ≡ true
    put_monotone s t h = zeros.put_monotone o b f d at bt s t i j h k m

    pub put_top : (t : Tri) → l.leq (put_at l n d bt t).at (n.between (pos 0) the_end) ≡ true
    put_top t = o.transitive (put_at l n d bt t).at (put_at l n (zero_of (n.between (pos 0) the_end)) (n.between (pos 0) the_end) Both).at (n.between (pos 0) the_end)
        (zeros.put_monotone o b d (zero_of (n.between (pos 0) the_end)) bt (n.between (pos 0) the_end) t Both k m (all_truths t) (o.reflexive (n.between (pos 0) the_end)) (o.reflexive (n.between (pos 0) the_end)))
        whole_top
