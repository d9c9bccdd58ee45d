-- What is known of an interval that was made from two numbers.
use Rattle.std.proofs.Common.{◌≡◌, ◌-◌, ◌^◌, ℤ, pos, negsuc, ◌≤ℤ◌, ◌<ℤ◌, refl, sym, subst, inl, inr}
use Rattle.cc_base.specs.IntegerDomains.{IsNear}
use Rattle.cc_base.specs.declared.int_types.IntType.{IntType}
use Rattle.cc_base.specs.IntegerTypes.{greatest_of}
use Rattle.interval_domain.specs.declared.intervals.intervals.Interval.{Interval}
use Rattle.interval_domain.specs.declared.intervals.intervals.Interval.TheVariants.{Bottom, Of}
use Rattle.interval_domain.specs.Intervals.Spans.{between_or_empty, by_between, interval_bounds}
use Rattle.interval_domain.specs.Numbers.SingleNumbers.{ApartFromZero}
use Rattle.interval_domain.specs.Intervals.Arithmetic.{IsApart, HasApartEnds, AreCounts, AreMultiplicands}

-- the bounds of a span that was made are the two numbers
abbrev pub HasEnds : ℤ → ℤ → Interval → Type 0
HasEnds a b Bottom = Unit {0}
HasEnds a b (Of s) = (s.lo ≡ a) × (s.hi ≡ b)

made_ends : (a b : ℤ) → HasEnds a b (between_or_empty a b)
made_ends a b = by_between (HasEnds a b) a b (λ o. (refl, refl)) (λ o. tt)

pub has_ends : (r : Interval) (a b : ℤ) → r ≡ between_or_empty a b → HasEnds a b r
has_ends r a b e = subst (HasEnds a b) (sym e) (made_ends a b)

below_at : (r : Interval) (a b : ℤ) → HasEnds a b r → b <ℤ pos 0 → IsApart r
below_at Bottom a b h k = tt
below_at (Of s) a b h k = inl (subst (λ n. n <ℤ pos 0) (sym h.1) k)

pub is_below : (r : Interval) (a b : ℤ) → r ≡ between_or_empty a b → b <ℤ pos 0 → IsApart r
is_below r a b e k = below_at r a b (has_ends r a b e) k

above_at : (r : Interval) (a b : ℤ) → HasEnds a b r → pos 0 <ℤ a → IsApart r
above_at Bottom a b h k = tt
above_at (Of s) a b h k = inr (subst (λ n. pos 0 <ℤ n) (sym h.0) k)

pub is_above : (r : Interval) (a b : ℤ) → r ≡ between_or_empty a b → pos 0 <ℤ a → IsApart r
is_above r a b e k = above_at r a b (has_ends r a b e) k

apart_at : (r : Interval) (a b : ℤ) → HasEnds a b r → ApartFromZero a → ApartFromZero b → HasApartEnds r
apart_at Bottom a b h p q = tt
apart_at (Of s) a b h p q = (subst ApartFromZero (sym h.0) p, subst ApartFromZero (sym h.1) q)

pub are_apart : (r : Interval) (a b : ℤ) → r ≡ between_or_empty a b → ApartFromZero a → ApartFromZero b → HasApartEnds r
are_apart r a b e p q = apart_at r a b (has_ends r a b e) p q

near_at : (r : Interval) (a b : ℤ) → HasEnds a b r → negsuc (2 ^ 64 - 1) ≤ℤ a → b ≤ℤ pos (2 ^ 64) → IsNear (interval_bounds r)
near_at Bottom a b h p q = tt
near_at (Of s) a b h p q = (subst (λ n. negsuc (2 ^ 64 - 1) ≤ℤ n) (sym h.0) p, subst (λ n. n ≤ℤ pos (2 ^ 64)) (sym h.1) q)

pub is_near : (r : Interval) (a b : ℤ) → r ≡ between_or_empty a b → negsuc (2 ^ 64 - 1) ≤ℤ a → b ≤ℤ pos (2 ^ 64) → IsNear (interval_bounds r)
is_near r a b e p q = near_at r a b (has_ends r a b e) p q

counts_at : (r : Interval) (a b : ℤ) → HasEnds a b r → pos 0 ≤ℤ a → b ≤ℤ pos 63 → AreCounts r
counts_at Bottom a b h p q = tt
counts_at (Of s) a b h p q = (subst (λ n. pos 0 ≤ℤ n) (sym h.0) p, subst (λ n. n ≤ℤ pos 63) (sym h.1) q)

pub are_counts : (r : Interval) (a b : ℤ) → r ≡ between_or_empty a b → pos 0 ≤ℤ a → b ≤ℤ pos 63 → AreCounts r
are_counts r a b e p q = counts_at r a b (has_ends r a b e) p q

multiplicands_at : (k : IntType) (r : Interval) (a b : ℤ) → HasEnds a b r → pos 0 ≤ℤ a → b ≤ℤ greatest_of k → AreMultiplicands k r
multiplicands_at k Bottom a b h p q = tt
multiplicands_at k (Of s) a b h p q = (subst (λ n. pos 0 ≤ℤ n) (sym h.0) p, subst (λ n. n ≤ℤ greatest_of k) (sym h.1) q)

pub are_multiplicands : (k : IntType) (r : Interval) (a b : ℤ) → r ≡ between_or_empty a b → pos 0 ≤ℤ a → b ≤ℤ greatest_of k → AreMultiplicands k r
are_multiplicands k r a b e p q = multiplicands_at k r a b (has_ends r a b e) p q
