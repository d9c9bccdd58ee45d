-- Ranges that have a number, and the ranges of types.
use Rattle.std.proofs.Common.{◌≡◌, ◌*◌, ◌-◌, ◌^◌, ◌≤◌, true, false, Some, None, arith, refl, inl, inr}
use Rattle.std.specs.Prelude.{ℤ, pos, negsuc, ◌≤ℤ◌, ◌<ℤ◌, is_some, int_le, int_lt}
use Rattle.std.specs.Ordering.{int_eq}
use Rattle.std.proofs.lemmas.Int.{ints}
use Rattle.std.proofs.lemmas.Bool.{cases_Bool, and_from}
use Rattle.std.proofs.lemmas.Bool.Decides.{Decides-int_eq}
use Rattle.cc_base.specs.Lattices.{LatticeOf}
use Rattle.cc_base.specs.NumberRanges.{Range}
use Rattle.cc_base.specs.IntegerTypes.{is_size, least_of, greatest_of}
use Rattle.cc_base.specs.IntegerDomains.{IntegersOf, BoundLaws}
use Rattle.cc_base.specs.declared.int_types.IntType.{IntType}
use Rattle.transfer_checks.specs.IntegerChecks.{has_number}
use Rattle.domain_theorems.proofs.values.Numbers.{RangeHas, bounds_have}
use Rattle.transfer_sound.proofs.values.NearScalars.{IsNearNumber}
use Rattle.store_sound.proofs.operations.FreshValues.{pow_up, eight}

pub same_int : (a b : ℤ) → int_eq a b ≡ true → a ≡ b
same_int a b h = (Decides-int_eq a b).0 h

pub le_told : (a b : ℤ) → a ≤ℤ b → int_le a b ≡ true
le_told a b h = grind (arith, ints)

pub le_from : (a b : ℤ) → int_le a b ≡ true → a ≤ℤ b
le_from a b h = grind (arith, ints)

pub le_is : (a b : ℤ) → int_le a b ≡ false → b <ℤ a
le_is a b h = grind (arith, ints)

pub lt_is : (a b : ℤ) → a <ℤ b → int_lt a b ≡ true
lt_is a b h = grind (arith, ints)

pub lt_from : (a b : ℤ) → int_lt a b ≡ true → a <ℤ b
lt_from a b h = grind (arith, ints)

-- ---- ranges with a number

pub range_number : (r : Range) (z : ℤ) → RangeHas r z → has_number r z ≡ true
range_number None z h = absurd h
range_number (Some p) z h = and_from _ _ (le_told p.0 z h.0) (le_told z p.1 h.1)

pub range_some : (r : Range) (z : ℤ) → RangeHas r z → is_some r ≡ true
range_some None z h = absurd h
range_some (Some p) z h = refl

module _ {I : Type 0} {l : LatticeOf I} {n : IntegersOf I} {gamma : I → ℤ → Type 0} (q : BoundLaws l n gamma) where
  pub bounds_number : (x : I) (z : ℤ) → gamma x z → has_number (n.bounds x) z ≡ true
  bounds_number x z h = range_number (n.bounds x) z (bounds_have q x z h)

  pub bounds_some : (x : I) (z : ℤ) → gamma x z → is_some (n.bounds x) ≡ true
  bounds_some x z h = range_some (n.bounds x) z (bounds_have q x z h)

-- ---- types

pub type_near : (k : IntType) (a z b : ℤ) → is_size k.bytes ≡ true → least_of k ≤ℤ a → b ≤ℤ greatest_of k → a ≤ℤ z → z ≤ℤ b → IsNearNumber z
type_near k a z b h e f i j =
    let g = eight k.bytes h in
    let u : 2 ^ (8 * k.bytes) ≤ 2 ^ 64 = pow_up (8 * k.bytes) 64 (omega (arith, g)) in
    let v : 2 ^ (8 * k.bytes - 1) ≤ 2 ^ 64 = pow_up (8 * k.bytes - 1) 64 (omega (arith, g)) in
    elim (cases_Bool k.signed) [
      | inl d ↦ (let x : negsuc (2 ^ (8 * k.bytes - 1) - 1) ≤ℤ a = rw d at e in let y : b ≤ℤ pos (2 ^ (8 * k.bytes - 1) - 1) = rw d at f in record { from = omega (arith, ints, v, x, i); to = omega (arith, ints, v, y, j) })
      | inr d ↦ (let x : pos 0 ≤ℤ a = rw d at e in let y : b ≤ℤ pos (2 ^ (8 * k.bytes) - 1) = rw d at f in record { from = omega (arith, ints, x, i); to = omega (arith, ints, u, y, j) })
    ]

module _ {I : Type 0} {l : LatticeOf I} {n : IntegersOf I} {gamma : I → ℤ → Type 0} (q : BoundLaws l n gamma) where
  -- a number of a value whose bounds lie in a type
  pub value_near : (k : IntType) (x : I) (z : ℤ) → is_size k.bytes ≡ true → ((a b : ℤ) → n.bounds x ≡ Some (a, b) → (least_of k ≤ℤ a) × (b ≤ℤ greatest_of k)) → gamma x z → IsNearNumber z
  value_near k x z size fits h = let i = q.inside x z h in let w = fits i.0 i.1 i.2 in type_near k i.0 z i.1 size w.0 w.1 i.3 i.4
