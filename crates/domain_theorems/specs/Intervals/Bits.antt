-- `&`, `|` and `^`.
use Rattle.std.specs.Prelude.{◌≡◌, ℕ, ◌+◌, ◌-◌, ◌*◌, ◌^◌, ◌<◌, ◌≤◌, max, ℤ, pos, negsuc, ◌+ℤ◌, ◌-ℤ◌, ◌≤ℤ◌, ◌<ℤ◌, Bool, true, false, cond, ◌&&◌, int_le, bit_and, bit_or, bit_xor, unsigned_abs, refl}
use Rattle.std.specs.Int.{int_min, int_rem_euclid, leading_zeros, w128}
use Rattle.std.proofs.Common.{arith, ap, sym, subst, subst₂, inl, inr, mod-eq_of_lt}
use Rattle.std.proofs.Math.Nat.{pow-le-pow_right}
use Rattle.std.proofs.lemmas.Int.{ints, clamps}
use Rattle.std.proofs.lemmas.Bool.{cases_Bool, cases_lt, cond_both, and_parts, and_from}
use Rattle.std.proofs.lemmas.Bool.Decides.{Decides-int_eq}
use Rattle.std.proofs.lemmas.Nat.{and_le_l, and_le_r, or_lt, xor_lt, leading_length, pow_pos}
use Rattle.std.proofs.lemmas.Grind.{pow_more}
use lib.Signed.{≤ℤ_refl}
use Rattle.cc_base.specs.IntegerTypes.{is_size, modulus, least_of, greatest_of, wrap_into}
use Rattle.cc_base.specs.declared.int_types.IntType.{IntType}
use Rattle.interval_domain.specs.declared.intervals.spans.Span.{Span}
use Rattle.interval_domain.specs.declared.intervals.intervals.Interval.{Interval}
use Rattle.interval_domain.specs.declared.intervals.intervals.Interval.TheVariants.{Of}
use Rattle.interval_domain.specs.Intervals.Spans.{Stands}
use Rattle.interval_domain.specs.Intervals.IntervalOrder.{interval_leq, leq_reflexive}
use Rattle.interval_domain.specs.Intervals.IntervalNumbers.{wrap_in, size_of_range}
use Rattle.interval_domain.specs.Intervals.Arithmetic.{conjunctions, disjunctions, exclusives, if_of_type, is_of_type, are_single, bits_in, with_bits, and_bound, or_bound, ones_above, clamped, whole}
use Rattle.interval_domain.specs.Intervals.Best.{le_true, true_le, stands_between}
use Rattle.interval_domain.proofs.intervals.Ranges.{range_facts}
use Rattle.domain_theorems.specs.Intervals.Kit.{Within, clamped_monotone, clamped_whole, single_below, same_single}

-- ---- the bits of a number that is not below zero

rem_own : (z : ℤ) (m : ℕ) → pos 0 ≤ℤ z → z <ℤ pos m → int_rem_euclid z (pos m) ≡ z
rem_own (pos n) m p q = let r : n < m = omega (arith, ints) in ap pos (mod-eq_of_lt r)
rem_own (negsuc n) m p q = absurd (omega (arith, ints))

-- a number of the type is left as it is
pub wrap_own : (k : IntType) (z : ℤ) → is_size k.bytes ≡ true → least_of k ≤ℤ z → z ≤ℤ greatest_of k → wrap_into k z ≡ z
wrap_own k z h p q =
    let e : (least_of k +ℤ pos (modulus k)) ≡ (greatest_of k +ℤ pos 1) = size_of_range k.bytes k.signed h in
    let r : int_rem_euclid (z -ℤ least_of k) (pos (modulus k)) ≡ (z -ℤ least_of k) = rem_own (z -ℤ least_of k) (modulus k) (omega (arith, ints)) (omega (arith, ints)) in
    omega (arith, ints)

bits_own : (k : IntType) (z : ℤ) → is_size k.bytes ≡ true → pos 0 ≤ℤ z → z ≤ℤ greatest_of k → bits_in k z ≡ unsigned_abs z
bits_own k z h p q =
    let e : (least_of k +ℤ pos (modulus k)) ≡ (greatest_of k +ℤ pos 1) = size_of_range k.bytes k.signed h in
    let f = (range_facts k h).least_high in
    ap unsigned_abs (rem_own z (modulus k) p (omega (arith, ints)))

abs_is : (z : ℤ) → pos 0 ≤ℤ z → pos (unsigned_abs z) ≡ z
abs_is (pos n) h = refl
abs_is (negsuc n) h = absurd (omega (arith, ints))

-- ---- `&`

module _ (k : IntType) (a b : ℤ) (h : is_size k.bytes ≡ true) where
  abbrev common : ℕ
  common = bit_and (bits_in k a) (bits_in k b)

  common_left : pos 0 ≤ℤ a → a ≤ℤ greatest_of k → pos common ≤ℤ a
  common_left p q =
      let e = bits_own k a h p q in
      let f = abs_is a p in
      let l = and_le_l (bits_in k a) (bits_in k b) in
      omega (arith, ints)

  common_right : pos 0 ≤ℤ b → b ≤ℤ greatest_of k → pos common ≤ℤ b
  common_right p q =
      let e = bits_own k b h p q in
      let f = abs_is b p in
      let l = and_le_r (bits_in k a) (bits_in k b) in
      omega (arith, ints)

-- a natural number of the type from 0 to b
natural_stands : (k : IntType) (n : ℕ) (b : ℤ) → is_size k.bytes ≡ true → pos n ≤ℤ b → pos n ≤ℤ greatest_of k → Stands (clamped k (pos 0) b) (wrap_into k (pos n))
natural_stands k n b h p q =
    let f = (range_facts k h).least_high in
    let e = wrap_own k (pos n) h (omega (arith, ints)) q in
    subst (Stands (clamped k (pos 0) b)) (sym e) (stands_between _ _ (pos n) (omega (arith, ints, clamps)) (omega (arith, ints, clamps)))

whole_stands : (k : IntType) (n : ℕ) → is_size k.bytes ≡ true → Stands (whole k) (wrap_into k (pos n))
whole_stands k n h = let w = wrap_in k (pos n) h in stands_between _ _ _ w.0 w.1

-- all numbers of a span are of the type
record LiesIn (k : IntType) (s : Span) : Type 0 where
  lower : least_of k ≤ℤ s.lo
  upper : s.hi ≤ℤ greatest_of k

lies_in : (k : IntType) (s : Span) → is_of_type k s ≡ true → LiesIn k s
lies_in k s h = let p = and_parts (int_le (least_of k) s.lo) (int_le s.hi (greatest_of k)) h in record { lower = le_true _ _ p.0; upper = le_true _ _ p.1 }

module _ (k : IntType) (s t : Span) (h : is_size k.bytes ≡ true) (m : LiesIn k s) (n : LiesIn k t) where
  and_stands : (a b : ℤ) → Stands (Of s) a → Stands (Of t) b → Stands (and_bound k s t) (wrap_into k (pos (common k a b h)))
  and_stands a b p q =
      let m' = m.upper in
      let n' = n.upper in
      let r : a ≤ℤ greatest_of k = omega (arith, ints) in
      let u : b ≤ℤ greatest_of k = omega (arith, ints) in
      cond_both (int_le (pos 0) s.lo) _ _ (λ x. Stands x (wrap_into k (pos (common k a b h))))
      (λ e. let l = le_true (pos 0) s.lo e in let i = common_left k a b h (omega (arith, ints)) r in
      cond_both (int_le (pos 0) t.lo) (clamped k (pos 0) (int_min s.hi t.hi)) (clamped k (pos 0) s.hi) (λ x. Stands x (wrap_into k (pos (common k a b h))))
      (λ f. let o = le_true (pos 0) t.lo f in let j = common_right k a b h (omega (arith, ints)) u in natural_stands k _ _ h (omega (arith, ints, clamps)) (omega (arith, ints)))
      (λ f. natural_stands k _ _ h (omega (arith, ints)) (omega (arith, ints))))
      (λ e. cond_both (int_le (pos 0) t.lo) (clamped k (pos 0) t.hi) (whole k) (λ x. Stands x (wrap_into k (pos (common k a b h))))
      (λ f. let o = le_true (pos 0) t.lo f in let j = common_right k a b h (omega (arith, ints)) u in natural_stands k _ _ h (omega (arith, ints)) (omega (arith, ints)))
      (λ f. whole_stands k (common k a b h) h))

-- a choice of bounds by whether the operands are below zero
abbrev bound_by : Bool → Bool → Interval → Interval → Interval → Interval → Interval
bound_by true true both left right none = both
bound_by true false both left right none = left
bound_by false true both left right none = right
bound_by false false both left right none = none

and_is : (k : IntType) (s t : Span) (a b : Bool) → cond a (cond b (clamped k (pos 0) (int_min s.hi t.hi)) (clamped k (pos 0) s.hi)) (cond b (clamped k (pos 0) t.hi) (whole k))
    ≡ bound_by a b (clamped k (pos 0) (int_min s.hi t.hi)) (clamped k (pos 0) s.hi) (clamped k (pos 0) t.hi) (whole k)
and_is k s t true true = refl
and_is k s t true false = refl
and_is k s t false true = refl
and_is k s t false false = refl

and_below_whole : (k : IntType) (s t : Span) → interval_leq (and_bound k s t) (whole k) ≡ true
and_below_whole k s t = cond_both (int_le (pos 0) s.lo) _ _ (λ x. interval_leq x (whole k) ≡ true)
    (λ _. cond_both (int_le (pos 0) t.lo) (clamped k (pos 0) (int_min s.hi t.hi)) (clamped k (pos 0) s.hi) (λ x. interval_leq x (whole k) ≡ true) (λ _. clamped_whole k _ _) (λ _. clamped_whole k _ _))
    (λ _. cond_both (int_le (pos 0) t.lo) (clamped k (pos 0) t.hi) (whole k) (λ x. interval_leq x (whole k) ≡ true) (λ _. clamped_whole k _ _) (λ _. leq_reflexive (whole k)))

-- a larger operand is below zero where the smaller one is
kept_natural : (s u : Span) → Within s u → int_le (pos 0) u.lo ≡ true → int_le (pos 0) s.lo ≡ true
kept_natural s u w h = let p = le_true (pos 0) u.lo h in let q = w.lower in true_le (pos 0) s.lo (omega (arith, ints))

and_cases : (k : IntType) (s t u v : Span) → Within s u → Within t v → (a b c d : Bool) → (c ≡ true → a ≡ true) → (d ≡ true → b ≡ true)
    → interval_leq (bound_by a b (clamped k (pos 0) (int_min s.hi t.hi)) (clamped k (pos 0) s.hi) (clamped k (pos 0) t.hi) (whole k))
    (bound_by c d (clamped k (pos 0) (int_min u.hi v.hi)) (clamped k (pos 0) u.hi) (clamped k (pos 0) v.hi) (whole k)) ≡ true
and_cases k s t u v w x true true true true f g = let p = w.upper in let q = x.upper in clamped_monotone k _ _ _ _ (omega (arith, ints)) (omega (arith, ints, clamps))
and_cases k s t u v w x true true true false f g = let p = w.upper in clamped_monotone k _ _ _ _ (omega (arith, ints)) (omega (arith, ints, clamps))
and_cases k s t u v w x true true false true f g = let q = x.upper in clamped_monotone k _ _ _ _ (omega (arith, ints)) (omega (arith, ints, clamps))
and_cases k s t u v w x true true false false f g = clamped_whole k _ _
and_cases k s t u v w x true false true true f g = let e = g refl in cc
and_cases k s t u v w x true false true false f g = clamped_monotone k _ _ _ _ (omega (arith, ints)) w.upper
and_cases k s t u v w x true false false true f g = let e = g refl in cc
and_cases k s t u v w x true false false false f g = clamped_whole k _ _
and_cases k s t u v w x false true true true f g = let e = f refl in cc
and_cases k s t u v w x false true true false f g = let e = f refl in cc
and_cases k s t u v w x false true false true f g = clamped_monotone k _ _ _ _ (omega (arith, ints)) x.upper
and_cases k s t u v w x false true false false f g = clamped_whole k _ _
and_cases k s t u v w x false false true true f g = let e = f refl in cc
and_cases k s t u v w x false false true false f g = let e = f refl in cc
and_cases k s t u v w x false false false true f g = let e = g refl in cc
and_cases k s t u v w x false false false false f g = leq_reflexive (whole k)

and_monotone : (k : IntType) (s t u v : Span) → Within s u → Within t v → interval_leq (and_bound k s t) (and_bound k u v) ≡ true
and_monotone k s t u v w x = subst₂ (λ y z. interval_leq y z ≡ true)
    (sym (and_is k s t (int_le (pos 0) s.lo) (int_le (pos 0) t.lo))) (sym (and_is k u v (int_le (pos 0) u.lo) (int_le (pos 0) v.lo)))
    (and_cases k s t u v w x (int_le (pos 0) s.lo) (int_le (pos 0) t.lo) (int_le (pos 0) u.lo) (int_le (pos 0) v.lo) (kept_natural s u w) (kept_natural t v x))

-- ---- `|` and `^`

-- an operation that gives no bit above those of its operands
abbrev KeepsWidth : (ℕ → ℕ → ℕ) → Type 0
KeepsWidth f = (k a b : ℕ) → a < 2 ^ k → b < 2 ^ k → f a b < 2 ^ k

-- the least power of two above a number
record Above (n : ℕ) : Type 0 where
  power : ℕ
  ones : ones_above n ≡ pos (2 ^ power - 1)
  above : n < 2 ^ power
  least : 2 ^ power ≤ 2 * n + 1

above_at : (n m l : ℕ) → l + m ≡ 128 → pos (2 ^ (128 - l) - 1) ≡ pos (2 ^ m - 1)
above_at n m l e = let f : 128 - l ≡ m = omega arith in ap (λ j. pos (2 ^ j - 1)) f

above_of : (n : ℕ) → n < 2 ^ 128 → Above n
above_of n h = let r = leading_length 128 n h in record { power = r.0; ones = above_at n r.0 (leading_zeros w128 n) r.1; above = r.2; least = r.3 }

power_rises : (i j m n : ℕ) → 2 ^ i ≤ 2 * m + 1 → n < 2 ^ j → m ≤ n → 2 ^ i ≤ 2 ^ j
power_rises i j m n h k l = elim (cases_lt j i) [
  | inr p ↦ pow-le-pow_right (omega arith) p
  | inl p ↦ (let q : 2 ^ (j + 1) ≤ 2 ^ i = pow-le-pow_right (omega arith) (omega arith) in let e = pow_more 2 j in absurd (omega arith))
]

ones_rise : (m n : ℕ) → m ≤ n → n < 2 ^ 128 → ones_above m ≤ℤ ones_above n
ones_rise m n h k =
    let a = above_of m (omega arith) in
    let b = above_of n k in
    let p = power_rises a.power b.power m n a.least b.above h in
    let e = a.ones in
    let f = b.ones in
    omega (arith, ints)

-- the greatest number of a type is one below a power of two
greatest_power : (n : ℕ) (s : Bool) → (e : ℕ) × (cond s (pos (2 ^ (8 * n - 1) - 1)) (pos (2 ^ (8 * n) - 1)) ≡ pos (2 ^ e - 1))
greatest_power n true = (8 * n - 1, refl)
greatest_power n false = (8 * n, refl)

abs_rises : (a b : ℤ) → pos 0 ≤ℤ a → a ≤ℤ b → unsigned_abs a ≤ unsigned_abs b
abs_rises (pos a) (pos b) p q = omega (arith, ints)
abs_rises (pos a) (negsuc b) p q = absurd (omega (arith, ints))
abs_rises (negsuc a) b p q = absurd (omega (arith, ints))

abs_small : (k : IntType) (a : ℤ) → is_size k.bytes ≡ true → pos 0 ≤ℤ a → a ≤ℤ greatest_of k → unsigned_abs a < 2 ^ 64
abs_small k a h p q = let f = (range_facts k h).greatest_high in let e = abs_is a p in omega (arith, ints)

below_power : (n e : ℕ) (g : ℤ) → g ≡ pos (2 ^ e - 1) → pos n ≤ℤ g → n < 2 ^ e
below_power n e g p q = let o = pow_pos e in omega (arith, ints)

power_below : (n e : ℕ) (g : ℤ) → g ≡ pos (2 ^ e - 1) → n < 2 ^ e → pos n ≤ℤ g
power_below n e g p q = omega (arith, ints)

module _ (f : ℕ → ℕ → ℕ) (keeps : KeepsWidth f) (k : IntType) (h : is_size k.bytes ≡ true) where
  -- both operands are not below zero
  natural_joined : (s t : Span) (a b : ℤ) → LiesIn k s → LiesIn k t → pos 0 ≤ℤ s.lo → pos 0 ≤ℤ t.lo → Stands (Of s) a → Stands (Of t) b
      → Stands (clamped k (pos 0) (ones_above (max (unsigned_abs s.hi) (unsigned_abs t.hi)))) (wrap_into k (pos (f (bits_in k a) (bits_in k b))))
  natural_joined s t a b m n i j p q =
      let m' = m.upper in
      let n' = n.upper in
      let e = bits_own k a h (omega (arith, ints)) (omega (arith, ints)) in
      let o = bits_own k b h (omega (arith, ints)) (omega (arith, ints)) in
      let x = abs_rises a s.hi (omega (arith, ints)) p.1 in
      let y = abs_rises b t.hi (omega (arith, ints)) q.1 in
      let u = abs_small k s.hi h (omega (arith, ints)) m' in
      let v = abs_small k t.hi h (omega (arith, ints)) n' in
      let z = above_of (max (unsigned_abs s.hi) (unsigned_abs t.hi)) (omega arith) in
      let z' = z.above in
      let c : f (bits_in k a) (bits_in k b) < 2 ^ z.power = keeps z.power (bits_in k a) (bits_in k b) (omega arith) (omega arith) in
      let g = greatest_power k.bytes k.signed in
      let a' = abs_is a (omega (arith, ints)) in
      let b' = abs_is b (omega (arith, ints)) in
      let d : f (bits_in k a) (bits_in k b) < 2 ^ g.0 = keeps g.0 (bits_in k a) (bits_in k b) (below_power _ g.0 (greatest_of k) g.1 (omega (arith, ints))) (below_power _ g.0 (greatest_of k) g.1 (omega (arith, ints))) in
      natural_stands k _ _ h (power_below _ z.power _ z.ones c) (power_below _ g.0 (greatest_of k) g.1 d)

  or_stands : (s t : Span) (a b : ℤ) → LiesIn k s → LiesIn k t → Stands (Of s) a → Stands (Of t) b → Stands (or_bound k s t) (wrap_into k (pos (f (bits_in k a) (bits_in k b))))
  or_stands s t a b m n p q = cond_both (int_le (pos 0) s.lo && int_le (pos 0) t.lo) _ (whole k) (λ x. Stands x (wrap_into k (pos (f (bits_in k a) (bits_in k b)))))
      (λ e. let l = and_parts (int_le (pos 0) s.lo) (int_le (pos 0) t.lo) e in natural_joined s t a b m n (le_true _ _ l.0) (le_true _ _ l.1) p q)
      (λ e. whole_stands k _ h)

or_below_whole : (k : IntType) (s t : Span) → interval_leq (or_bound k s t) (whole k) ≡ true
or_below_whole k s t = cond_both (int_le (pos 0) s.lo && int_le (pos 0) t.lo) _ (whole k) (λ x. interval_leq x (whole k) ≡ true) (λ _. clamped_whole k _ _) (λ _. leq_reflexive (whole k))

max_small : (k : IntType) (u v : Span) → is_size k.bytes ≡ true → LiesIn k u → LiesIn k v → pos 0 ≤ℤ u.hi → pos 0 ≤ℤ v.hi → max (unsigned_abs u.hi) (unsigned_abs v.hi) < 2 ^ 128
max_small k u v h m n p q = let a = abs_small k u.hi h p m.upper in let b = abs_small k v.hi h q n.upper in omega arith

or_monotone : (k : IntType) (s t u v : Span) → is_size k.bytes ≡ true → LiesIn k u → LiesIn k v → Within s u → Within t v → interval_leq (or_bound k s t) (or_bound k u v) ≡ true
or_monotone k s t u v h m n w x = cond_both (int_le (pos 0) u.lo && int_le (pos 0) v.lo) _ (whole k) (λ y. interval_leq (or_bound k s t) y ≡ true)
    (λ e.
    let l = and_parts (int_le (pos 0) u.lo) (int_le (pos 0) v.lo) e in
    let i = le_true (pos 0) s.lo (kept_natural s u w l.0) in
    let j = le_true (pos 0) t.lo (kept_natural t v x l.1) in
    let s' = s.ordered in
    let t' = t.ordered in
    let w' = w.upper in
    let x' = x.upper in
    let a = abs_rises s.hi u.hi (omega (arith, ints)) w' in
    let b = abs_rises t.hi v.hi (omega (arith, ints)) x' in
    let o : (int_le (pos 0) s.lo && int_le (pos 0) t.lo) ≡ true = and_from _ _ (kept_natural s u w l.0) (kept_natural t v x l.1) in
    subst (λ c. interval_leq (cond c (clamped k (pos 0) (ones_above (max (unsigned_abs s.hi) (unsigned_abs t.hi)))) (whole k)) (clamped k (pos 0) (ones_above (max (unsigned_abs u.hi) (unsigned_abs v.hi)))) ≡ true) (sym o)
    (clamped_monotone k _ _ _ _ (omega (arith, ints)) (ones_rise _ _ (omega arith) (max_small k u v h m n (omega (arith, ints)) (omega (arith, ints))))))
    (λ e. or_below_whole k s t)

-- ---- all three

lies_within : (k : IntType) (s u : Span) → Within s u → LiesIn k u → LiesIn k s
lies_within k s u w l = let p = w.lower in let q = w.upper in let p' = l.lower in let q' = l.upper in record { lower = omega (arith, ints); upper = omega (arith, ints) }

is_of : (k : IntType) (s : Span) → LiesIn k s → is_of_type k s ≡ true
is_of k s l = and_from (int_le (least_of k) s.lo) (int_le s.hi (greatest_of k)) (true_le _ _ l.lower) (true_le _ _ l.upper)

-- an operation on bits, and a bound of its results
record Bitwise (f : ℕ → ℕ → ℕ) (bound : IntType → Span → Span → Interval) : Type 0 where
  stands : (k : IntType) (s t : Span) (a b : ℤ) → is_size k.bytes ≡ true → LiesIn k s → LiesIn k t → Stands (Of s) a → Stands (Of t) b → Stands (bound k s t) (wrap_into k (pos (f (bits_in k a) (bits_in k b))))
  monotone : (k : IntType) (s t u v : Span) → is_size k.bytes ≡ true → LiesIn k u → LiesIn k v → Within s u → Within t v → interval_leq (bound k s t) (bound k u v) ≡ true
  below_whole : (k : IntType) (s t : Span) → interval_leq (bound k s t) (whole k) ≡ true

module _ (f : ℕ → ℕ → ℕ) (bound : IntType → Span → Span → Interval) (l : Bitwise f bound) where
  abbrev in_type_result : IntType → Span → Span → Interval
  in_type_result k s t = cond (are_single s t) (with_bits k (f (bits_in k s.lo) (bits_in k t.lo))) (bound k s t)

  abbrev results : IntType → Span → Span → Interval
  results k s t = if_of_type k s t (in_type_result k s t)

  result_below_whole : (k : IntType) (s t : Span) → is_size k.bytes ≡ true → interval_leq (results k s t) (whole k) ≡ true
  result_below_whole k s t h = cond_both (is_of_type k s && is_of_type k t) (in_type_result k s t) (whole k) (λ x. interval_leq x (whole k) ≡ true)
      (λ _. cond_both (are_single s t) (with_bits k (f (bits_in k s.lo) (bits_in k t.lo))) (bound k s t) (λ x. interval_leq x (whole k) ≡ true)
      (λ _. single_below _ (whole k) (whole_stands k _ h)) (λ _. l.below_whole k s t))
      (λ _. leq_reflexive (whole k))

  module _ (k : IntType) (s t u v : Span) (h : is_size k.bytes ≡ true) (w : Within s u) (x : Within t v) (m : LiesIn k u) (n : LiesIn k v) where
    to_single : are_single u v ≡ true → interval_leq (in_type_result k s t) (in_type_result k u v) ≡ true
    to_single e =
        let p = and_parts _ _ e in
        let c = same_single s u w ((Decides-int_eq u.lo u.hi).0 p.0) in
        let d = same_single t v x ((Decides-int_eq v.lo v.hi).0 p.1) in
        subst₂ (λ y z. interval_leq (in_type_result k s t) (in_type_result k y z) ≡ true) c d (leq_reflexive (in_type_result k s t))

    to_bound : interval_leq (in_type_result k s t) (bound k u v) ≡ true
    to_bound = cond_both (are_single s t) (with_bits k (f (bits_in k s.lo) (bits_in k t.lo))) (bound k s t) (λ y. interval_leq y (bound k u v) ≡ true)
        (λ _. single_below _ (bound k u v) (l.stands k u v s.lo t.lo h m n
        (w.lower, (let o = s.ordered in let p = w.upper in omega (arith, ints))) (x.lower, (let o = t.ordered in let p = x.upper in omega (arith, ints)))))
        (λ _. l.monotone k s t u v h m n w x)

    in_type_monotone : interval_leq (in_type_result k s t) (in_type_result k u v) ≡ true
    in_type_monotone = elim (cases_Bool (are_single u v)) [
      | inl e ↦ to_single e
      | inr e ↦ subst (λ b. interval_leq (in_type_result k s t) (cond b (with_bits k (f (bits_in k u.lo) (bits_in k v.lo))) (bound k u v)) ≡ true) (sym e) to_bound
    ]

    of_type_monotone : interval_leq (results k s t) (in_type_result k u v) ≡ true
    of_type_monotone =
        let o : (is_of_type k s && is_of_type k t) ≡ true = and_from _ _ (is_of k s (lies_within k s u w m)) (is_of k t (lies_within k t v x n)) in
        subst (λ b. interval_leq (cond b (in_type_result k s t) (whole k)) (in_type_result k u v) ≡ true) (sym o) in_type_monotone

  results_monotone : (k : IntType) (s t u v : Span) → is_size k.bytes ≡ true → Within s u → Within t v → interval_leq (results k s t) (results k u v) ≡ true
  results_monotone k s t u v h w x = cond_both (is_of_type k u && is_of_type k v) (in_type_result k u v) (whole k) (λ y. interval_leq (results k s t) y ≡ true)
      (λ e. let p = and_parts _ _ e in of_type_monotone k s t u v h w x (lies_in k u p.0) (lies_in k v p.1))
      (λ e. result_below_whole k s t h)

  results_stands : (k : IntType) (s t : Span) (a b : ℤ) → is_size k.bytes ≡ true → Stands (Of s) a → Stands (Of t) b → Stands (results k s t) (wrap_into k (pos (f (bits_in k a) (bits_in k b))))
  results_stands k s t a b h p q = cond_both (is_of_type k s && is_of_type k t) (in_type_result k s t) (whole k) (λ y. Stands y (wrap_into k (pos (f (bits_in k a) (bits_in k b)))))
      (λ e. let o = and_parts _ _ e in cond_both (are_single s t) (with_bits k (f (bits_in k s.lo) (bits_in k t.lo))) (bound k s t) (λ y. Stands y (wrap_into k (pos (f (bits_in k a) (bits_in k b)))))
      (λ d.
      let g = and_parts _ _ d in
      let i = (Decides-int_eq s.lo s.hi).0 g.0 in
      let j = (Decides-int_eq t.lo t.hi).0 g.1 in
      let c : s.lo ≡ a = omega (arith, ints) in
      let c' : t.lo ≡ b = omega (arith, ints) in
      subst₂ (λ y z. Stands (with_bits k (f (bits_in k s.lo) (bits_in k t.lo))) (wrap_into k (pos (f (bits_in k y) (bits_in k z))))) c c'
      (stands_between _ _ _ (≤ℤ_refl (wrap_into k (pos (f (bits_in k s.lo) (bits_in k t.lo))))) (≤ℤ_refl (wrap_into k (pos (f (bits_in k s.lo) (bits_in k t.lo)))))))
      (λ d. l.stands k s t a b h (lies_in k s o.0) (lies_in k t o.1) p q))
      (λ e. whole_stands k _ h)

and_bitwise : Bitwise bit_and and_bound
and_bitwise = record {
  stands = λ k s t a b h m n p q. and_stands k s t h m n a b p q;
  monotone = λ k s t u v h m n w x. and_monotone k s t u v w x;
  below_whole = and_below_whole;
}

or_bitwise : Bitwise bit_or or_bound
or_bitwise = record {
  stands = λ k s t a b h m n p q. or_stands bit_or or_lt k h s t a b m n p q;
  monotone = or_monotone;
  below_whole = or_below_whole;
}

xor_bitwise : Bitwise bit_xor or_bound
xor_bitwise = record {
  stands = λ k s t a b h m n p q. or_stands bit_xor xor_lt k h s t a b m n p q;
  monotone = or_monotone;
  below_whole = or_below_whole;
}

pub conjunctions_monotone : (k : IntType) (s t u v : Span) → is_size k.bytes ≡ true → Within s u → Within t v → interval_leq (conjunctions k s t) (conjunctions k u v) ≡ true
conjunctions_monotone = results_monotone bit_and and_bound and_bitwise

pub disjunctions_monotone : (k : IntType) (s t u v : Span) → is_size k.bytes ≡ true → Within s u → Within t v → interval_leq (disjunctions k s t) (disjunctions k u v) ≡ true
disjunctions_monotone = results_monotone bit_or or_bound or_bitwise

pub exclusives_monotone : (k : IntType) (s t u v : Span) → is_size k.bytes ≡ true → Within s u → Within t v → interval_leq (exclusives k s t) (exclusives k u v) ≡ true
exclusives_monotone = results_monotone bit_xor or_bound xor_bitwise

pub conjunctions_stands : (k : IntType) (s t : Span) (a b : ℤ) → is_size k.bytes ≡ true → Stands (Of s) a → Stands (Of t) b → Stands (conjunctions k s t) (wrap_into k (pos (bit_and (bits_in k a) (bits_in k b))))
conjunctions_stands = results_stands bit_and and_bound and_bitwise

pub disjunctions_stands : (k : IntType) (s t : Span) (a b : ℤ) → is_size k.bytes ≡ true → Stands (Of s) a → Stands (Of t) b → Stands (disjunctions k s t) (wrap_into k (pos (bit_or (bits_in k a) (bits_in k b))))
disjunctions_stands = results_stands bit_or or_bound or_bitwise

pub exclusives_stands : (k : IntType) (s t : Span) (a b : ℤ) → is_size k.bytes ≡ true → Stands (Of s) a → Stands (Of t) b → Stands (exclusives k s t) (wrap_into k (pos (bit_xor (bits_in k a) (bits_in k b))))
exclusives_stands = results_stands bit_xor or_bound xor_bitwise
