-- What the near part of a value stands for lies within the value's bounds, and the near part of a larger value stands for it.
use Rattle.std.proofs.Common.{◌≡◌, ◌^◌, ◌∙◌, Bool, true, false, not, ◌||◌, Some, None, arith, sym, inl, inr}
use Rattle.std.specs.Prelude.{ℤ, pos, neg_ℤ, ◌≤ℤ◌, int_le, int_lt}
use Rattle.std.specs.Int.{int_min, int_max}
use Rattle.std.proofs.lemmas.Int.{ints, clamps}
use Rattle.std.proofs.lemmas.Bool.{cases_Bool, cond_both}
use Rattle.cc_base.specs.Lattices.{LatticeOf}
use Rattle.cc_base.specs.NumberRanges.{Range, range_met}
use Rattle.cc_base.specs.IntegerDomains.{IntegersOf, BoundLaws, of_range}
use Rattle.domain_theorems.proofs.values.Numbers.{RangeHas, met_has, bounds_have, of_range_stands}
use Rattle.domain_theorems.proofs.values.Ranges.{RangeBelow, bounds_monotone}
use Rattle.store_cells.specs.NearValues.{is_near, near_part, near_number}
use Rattle.transfer_sound.proofs.values.NearScalars.{IsNearNumber, near_number_stands}
use Rattle.transfer_sound.proofs.values.MoveSteps.{near_has}

met_from : (x : Range) (a b z : ℤ) → RangeHas (range_met x a b) z → RangeHas x z
met_from None a b z h = absurd h
met_from (Some p) a b z h = cond_both (int_le (int_max p.0 a) (int_min p.1 b)) (Some (int_max p.0 a, int_min p.1 b)) None (λ r. RangeHas r z → RangeHas (Some p) z)
    (λ t k. let c = k.0 in let d = k.1 in (omega (arith, ints, clamps, c, d), omega (arith, ints, clamps, c, d))) (λ t k. absurd k) h

below_has : (x y : Range) (z : ℤ) → RangeBelow x y → RangeHas x z → RangeHas y z
below_has None y z e h = absurd h
below_has (Some p) None z e h = absurd e
below_has (Some p) (Some r) z e h =
    let a = e.0 in
    let b = e.1 in
    let c = h.0 in
    let d = h.1 in
    (omega (arith, ints, a, c), omega (arith, ints, b, d))

near_pair : (a b c d : ℤ) → c ≤ℤ a → b ≤ℤ d → not (int_lt c (neg_ℤ (pos (2 ^ 64))) || int_lt (pos (2 ^ 64)) d) ≡ true → not (int_lt a (neg_ℤ (pos (2 ^ 64))) || int_lt (pos (2 ^ 64)) b) ≡ true
near_pair a b c d h k e = grind (arith, ints)

near_below : (x y : Range) (z : ℤ) → RangeBelow x y → RangeHas x z → is_near y ≡ true → is_near x ≡ true
near_below None y z e h k = absurd h
near_below (Some p) None z e h k = absurd e
near_below (Some p) (Some r) z e h k = near_pair p.0 p.1 r.0 r.1 e.0 e.1 k

no_both : (b : Bool) → b ≡ true → b ≡ false → ⊥
no_both b t f = let e : true ≡ false = sym t ∙ f in cc

module _ {I : Type 0} {l : LatticeOf I} {n : IntegersOf I} {gamma : I → ℤ → Type 0} (q : BoundLaws l n gamma) where
  -- no number is stood for by the least value
  pub least_stands : (z : ℤ) → gamma l.least z → ⊥
  least_stands z h = let i = q.inside l.least z h in let e = sym q.least_bounds ∙ i.2 in cc

  of_range_has : (r : Range) (z : ℤ) → gamma (of_range l n r) z → RangeHas r z
  of_range_has None z h = absurd (least_stands z h)
  of_range_has (Some p) z h = cond_both (int_le p.0 p.1) (n.between p.0 p.1) l.least (λ x. gamma x z → RangeHas (Some p) z)
      (λ t k. let i = q.inside (n.between p.0 p.1) z k in by_bounds i.0 i.1 (n.bounds (n.between p.0 p.1)) (q.between_bounds p.0 p.1 (grind (arith, ints))) i.2 i.3 i.4) (λ t k. absurd (least_stands z k)) h
    where
      by_bounds : (c d : ℤ) (r : Range) → r ≡ Some (p.0, p.1) → r ≡ Some (c, d) → c ≤ℤ z → z ≤ℤ d → (p.0 ≤ℤ z) × (z ≤ℤ p.1)
      by_bounds c d r h k a b = let f : p.0 ≡ c = cc in let g : p.1 ≡ d = cc in (omega (arith, ints, a, f), omega (arith, ints, b, g))

  -- a number for which the near part of a value stands
  pub record IsNearIn (x : I) (z : ℤ) : Type 0 where
    pub has : RangeHas (n.bounds x) z
    pub near : IsNearNumber z

  pub near_in : (x : I) (z : ℤ) → gamma (near_number l n x) z → IsNearIn x z
  near_in x z h = elim (cases_Bool (is_near (n.bounds x))) [
    | inl e ↦ (let k : gamma x z = rw e at h in record { has = bounds_have q x z k; near = near_has q x z h })
    | inr e ↦ (let k : gamma (near_part l n x) z = rw e at h in record { has = met_from (n.bounds x) (neg_ℤ (pos (2 ^ 64))) (pos (2 ^ 64)) z (of_range_has (range_met (n.bounds x) (neg_ℤ (pos (2 ^ 64))) (pos (2 ^ 64))) z k); near = near_has q x z h })
  ]

  -- so does the near part of those numbers of its range that lie between two ends, where the number does
  pub met_stands : (x : I) (a b z : ℤ) → gamma (near_number l n x) z → a ≤ℤ z → z ≤ℤ b → gamma (near_number l n (of_range l n (range_met (n.bounds x) a b))) z
  met_stands x a b z h c d =
      let k = near_in x z h in
      near_number_stands q (of_range l n (range_met (n.bounds x) a b)) z k.near (of_range_stands q (range_met (n.bounds x) a b) z (met_has (n.bounds x) a b z k.has c d))

  pub near_larger : (x y : I) (z : ℤ) → l.leq x y ≡ true → gamma (near_number l n x) z → gamma (near_number l n y) z
  near_larger x y z e h =
      let k = near_in x z h in
      let below = bounds_monotone q x y e in
      elim (cases_Bool (is_near (n.bounds x))) [
        | inl f ↦ (let s : gamma x z = rw f at h in near_number_stands q y z k.near (q.larger x y z e s))
        | inr f ↦ elim (cases_Bool (is_near (n.bounds y))) [
          | inl g ↦ absurd (no_both (is_near (n.bounds x)) (near_below (n.bounds x) (n.bounds y) z below k.has g) f)
          | inr g ↦ rw g (of_range_stands q _ z (met_has (n.bounds y) (neg_ℤ (pos (2 ^ 64))) (pos (2 ^ 64)) z (below_has (n.bounds x) (n.bounds y) z below k.has) k.near.from k.near.to))
        ]
      ]
