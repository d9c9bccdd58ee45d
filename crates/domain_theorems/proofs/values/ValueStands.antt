-- Values stand for what the operations do to their numbers.
use Rattle.std.specs.Prelude.{◌≡◌, ℤ, pos, true, not, ◌||◌, Some, None}
use Rattle.std.proofs.lemmas.Bool.{and_parts}
use lib.Signed.{≤ℤ_refl}
use Rattle.cc_base.specs.Lattices.{LatticeOf}
use Rattle.cc_base.specs.NumberRanges.{Range}
use Rattle.cc_base.specs.IntegerTypes.{in_type}
use Rattle.cc_base.specs.IntegerDomains.{IntegersOf, BoundLaws}
use Rattle.cc_base.specs.IntegerLaws.{SoundLaws}
use Rattle.cc_base.specs.Truths.{can_hold, can_fail}
use Rattle.cc_base.specs.declared.int_types.IntType.{IntType}
use Rattle.cc_base.specs.declared.integer_operators.IntOp.{IntOp}
use Rattle.cc_base.specs.declared.integer_operators.Rel.TheVariants.{Ne}
use Rattle.pointer_domain.specs.BaseSets.{bases_empty}
use Rattle.value_domain.specs.declared.values.values.Value.{Value}
use Rattle.value_domain.specs.Values.ValueTables.{value_truth, corners_leave, ranges_leave, range_fits}
use Rattle.domain_theorems.specs.Values.ValueMeaning.{ValueMeaning}
use Rattle.domain_theorems.proofs.values.Flags.{or_left, or_right, holds_of, fails_of}
use Rattle.domain_theorems.proofs.values.Ranges.{RangeBelow}
use Rattle.domain_theorems.proofs.values.Leaving.{leave_more, fits_less}
use Rattle.domain_theorems.proofs.values.Numbers.{RangeHas, bounds_have}

-- one number of a range is a range within it
single_below : (a : ℤ) (r : Range) → RangeHas r a → RangeBelow (Some (a, a)) r
single_below a None h = absurd h
single_below a (Some p) h = (h.0, h.1)

module _ {I : Type 0} {l : LatticeOf I} {n : IntegersOf I} {stands : I → ℤ → Type 0} (b : BoundLaws l n stands) where
  pub single : (x : I) (a : ℤ) → stands x a → RangeBelow (Some (a, a)) (n.bounds x)
  single x a h = single_below a (n.bounds x) (bounds_have b x a h)

module _ {I : Type 0} {l : LatticeOf I} {n : IntegersOf I} {stands : I → ℤ → Type 0} (b : BoundLaws l n stands) (s : SoundLaws l n stands) where
  leaves_stand : (op : IntOp) (k : IntType) (x y : Value I) (a c : ℤ) → stands x.num a → stands y.num c → corners_leave op k (a, a) (c, c) ≡ true → ranges_leave op k (n.bounds x.num) (n.bounds y.num) ≡ true
  leaves_stand op k x y a c h j e = leave_more op k (Some (a, a)) (Some (c, c)) (n.bounds x.num) (n.bounds y.num) (≤ℤ_refl a) (≤ℤ_refl c) (single b x.num a h) (single b y.num c j) e

  fits_stand : (k : IntType) (x : Value I) (a : ℤ) → stands x.num a → range_fits k (n.bounds x.num) ≡ true → in_type k a ≡ true
  fits_stand k x a h e = let p = and_parts (in_type k a) (in_type k a) (fits_less k (Some (a, a)) (n.bounds x.num) (≤ℤ_refl a) (single b x.num a h) e) in p.0

  holds_at : (x : Value I) → (can_hold (n.compare Ne x.num (n.one (pos 0))) || (not (bases_empty x.pointer.bases) || x.pointer.ended)) ≡ true → can_hold (value_truth n x) ≡ true
  holds_at x h = holds_of (can_hold (n.compare Ne x.num (n.one (pos 0))) || (not (bases_empty x.pointer.bases) || x.pointer.ended)) (can_fail (n.compare Ne x.num (n.one (pos 0))) || x.pointer.null) h

  fails_at : (x : Value I) → (can_fail (n.compare Ne x.num (n.one (pos 0))) || x.pointer.null) ≡ true → can_fail (value_truth n x) ≡ true
  fails_at x h = fails_of (can_hold (n.compare Ne x.num (n.one (pos 0))) || (not (bases_empty x.pointer.bases) || x.pointer.ended)) (can_fail (n.compare Ne x.num (n.one (pos 0))) || x.pointer.null) h

  pub value_meaning : ValueMeaning l n stands
  value_meaning = record {
    arith = λ op k x y a c d z h j i e. s.arith_stands op k x.num y.num a c d z h j i e;
    unary = λ op k x a c z h i e. s.unary_stands op k x.num a c z h i e;
    convert = λ k x a z h. s.convert_stands k x.num a z h;
    leaves = leaves_stand;
    fits = fits_stand;
    truth_holds = λ x a h e. holds_at x (or_left _ _ (s.compare_holds Ne x.num (n.one (pos 0)) a (pos 0) h (b.one_stands (pos 0)) e));
    truth_fails = λ x a h e. fails_at x (or_left _ _ (s.compare_fails Ne x.num (n.one (pos 0)) a (pos 0) h (b.one_stands (pos 0)) e));
    null_fails = λ x e. fails_at x (or_right (can_fail (n.compare Ne x.num (n.one (pos 0)))) x.pointer.null e);
    ended_holds = λ x e. holds_at x (or_right (can_hold (n.compare Ne x.num (n.one (pos 0)))) (not (bases_empty x.pointer.bases) || x.pointer.ended) (or_right (not (bases_empty x.pointer.bases)) x.pointer.ended e));
  }
