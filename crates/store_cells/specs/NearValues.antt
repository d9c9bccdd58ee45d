-- Values whose bounds lie from -2^64 to 2^64.
use Rattle.std.specs.Prelude.{◌≡◌, ◌^◌, ◌≤ℤ◌, ℤ, pos, neg_ℤ, Bool, false, cond, not, ◌||◌, int_le, int_lt, Some, None, refl}
use Rattle.std.specs.Int.{int_min, int_max}
use Rattle.std.proofs.Common.{arith, sym, subst}
use Rattle.std.proofs.lemmas.Int.{ints, clamps}
use Rattle.std.proofs.lemmas.Bool.{cond_both}
use Rattle.cc_base.specs.Lattices.{LatticeOf}
use Rattle.cc_base.specs.NumberRanges.{Range, range_between, range_met}
use Rattle.cc_base.specs.IntegerDomains.{IntegersOf, BoundLaws, IsNear, between_or_least, of_range}
use Rattle.pointer_domain.specs.declared.pointer_sets.Pointers.{Pointers}
use Rattle.value_domain.specs.declared.values.values.Value.{Value}

abbrev pub is_near : Range → Bool
is_near None = false
is_near (Some p) = not (int_lt p.0 (neg_ℤ (pos (2 ^ 64))) || int_lt (pos (2 ^ 64)) p.1)

module _ {I : Type 0} where
  -- the numbers from the least to the greatest near one
  abbrev pub near_part : LatticeOf I → IntegersOf I → I → I
  near_part l n x = of_range l n (range_met (n.bounds x) (neg_ℤ (pos (2 ^ 64))) (pos (2 ^ 64)))

  -- the numbers, where they are near; else those of them that are
  abbrev pub near_number : LatticeOf I → IntegersOf I → I → I
  near_number l n x = cond (is_near (n.bounds x)) x (near_part l n x)

  abbrev pub near_pointer : LatticeOf I → IntegersOf I → Pointers I → Pointers I
  near_pointer l n p = record p { lo = near_number l n p.lo; rel = near_number l n p.rel; len = near_number l n p.len }

  abbrev pub near_value : LatticeOf I → IntegersOf I → Value I → Value I
  near_value l n v = record v { num = near_number l n v.num; pointer = near_pointer l n v.pointer }

module _ {I : Type 0} {l : LatticeOf I} {n : IntegersOf I} {stands : I → ℤ → Type 0} (b : BoundLaws l n stands) where
  between_near : (a c : ℤ) → neg_ℤ (pos (2 ^ 64)) ≤ℤ a → c ≤ℤ pos (2 ^ 64) → IsNear (n.bounds (between_or_least l n a c))
  between_near a c h k = cond_both (int_le a c) (n.between a c) l.least (λ x. IsNear (n.bounds x))
      (λ e. subst IsNear (sym (b.between_bounds a c (grind (arith, ints)))) (omega (arith, ints), omega (arith, ints)))
      (λ e. subst IsNear (sym b.least_bounds) tt)

  met_near : (r : Range) → IsNear (n.bounds (of_range l n (range_met r (neg_ℤ (pos (2 ^ 64))) (pos (2 ^ 64)))))
  met_near None = subst IsNear (sym b.least_bounds) tt
  met_near (Some p) =
      let lo = int_max p.0 (neg_ℤ (pos (2 ^ 64))) in
      let hi = int_min p.1 (pos (2 ^ 64)) in
      cond_both (int_le lo hi) (Some (lo, hi)) None (λ r. IsNear (n.bounds (of_range l n r)))
      (λ e. between_near lo hi (omega (arith, ints, clamps)) (omega (arith, ints, clamps)))
      (λ e. subst IsNear (sym b.least_bounds) tt)

  -- what is left lies from -2^64 to 2^64
  pub part_near : (x : I) → IsNear (n.bounds (near_part l n x))
  part_near x = met_near (n.bounds x)
