-- Sums, differences and products.
use Rattle.std.specs.Prelude.{◌≡◌, ℕ, suc, ◌*◌, ◌≤◌, ℤ, pos, negsuc, ◌+ℤ◌, ◌-ℤ◌, ◌*ℤ◌, ◌≤ℤ◌, true, Some}
use Rattle.std.proofs.Common.{arith, subst}
use Rattle.std.proofs.lemmas.Int.{ints}
use Rattle.std.proofs.lemmas.Nat.{mul-le}
use lib.IntN.{negsuc-*ℤ-pos, *ℤ-negsuc, *ℤ_comm}
use Rattle.cc_base.specs.IntegerTypes.{is_size}
use Rattle.cc_base.specs.MachineArithmetic.{result_of}
use Rattle.cc_base.specs.declared.int_types.IntType.{IntType}
use Rattle.interval_domain.specs.declared.intervals.spans.Span.{Span}
use Rattle.interval_domain.specs.declared.intervals.intervals.Interval.TheVariants.{Of}
use Rattle.interval_domain.specs.Intervals.Spans.{Stands}
use Rattle.interval_domain.specs.Intervals.IntervalOrder.{interval_leq}
use Rattle.interval_domain.specs.Intervals.Arithmetic.{sums, differences, products}
use Rattle.domain_theorems.specs.Intervals.Kit.{Within, into_monotone, into_stands}
use Rattle.domain_theorems.specs.Intervals.Corners.{LiesAmong, among_rising, among_falling, HasExtremesAtEnds, corners_bound, low_high, low_falls, high_rises}

-- ---- + and -

pub sums_monotone : (k : IntType) (s t u v : Span) → is_size k.bytes ≡ true → Within s u → Within t v → interval_leq (sums k s t) (sums k u v) ≡ true
sums_monotone k s t u v h w x =
    let a = s.ordered in
    let b = t.ordered in
    let w' = w.lower in
    let w'' = w.upper in
    let x' = x.lower in
    let x'' = x.upper in
    into_monotone k _ _ _ _ h (omega (arith, ints)) (omega (arith, ints)) (omega (arith, ints))

pub differences_monotone : (k : IntType) (s t u v : Span) → is_size k.bytes ≡ true → Within s u → Within t v → interval_leq (differences k s t) (differences k u v) ≡ true
differences_monotone k s t u v h w x =
    let a = s.ordered in
    let b = t.ordered in
    let w' = w.lower in
    let w'' = w.upper in
    let x' = x.lower in
    let x'' = x.upper in
    into_monotone k _ _ _ _ h (omega (arith, ints)) (omega (arith, ints)) (omega (arith, ints))

pub sums_stands : (k : IntType) (s t : Span) (a b c : ℤ) → is_size k.bytes ≡ true → Stands (Of s) a → Stands (Of t) b → result_of k (a +ℤ b) ≡ Some c → Stands (sums k s t) c
sums_stands k s t a b c h p q e = into_stands k _ _ (a +ℤ b) c h (omega (arith, ints)) (omega (arith, ints)) e

pub differences_stands : (k : IntType) (s t : Span) (a b c : ℤ) → is_size k.bytes ≡ true → Stands (Of s) a → Stands (Of t) b → result_of k (a -ℤ b) ≡ Some c → Stands (differences k s t) c
differences_stands k s t a b c h p q e = into_stands k _ _ (a -ℤ b) c h (omega (arith, ints)) (omega (arith, ints)) e

-- ---- *

times_natural : (a b : ℤ) (f : ℕ) → a ≤ℤ b → (a *ℤ pos f) ≤ℤ (b *ℤ pos f)
times_natural (pos a) (pos b) f h = let k : a * f ≤ b * f = mul-le a f b f (omega (arith, ints)) (omega arith) in omega (arith, ints)
times_natural (pos a) (negsuc b) f h = absurd (omega (arith, ints))
times_natural (negsuc a) (pos b) f h = let e = negsuc-*ℤ-pos a f in omega (arith, ints)
times_natural (negsuc a) (negsuc b) f h =
    let e = negsuc-*ℤ-pos a f in
    let d = negsuc-*ℤ-pos b f in
    let k : suc b * f ≤ suc a * f = mul-le (suc b) f (suc a) f (omega (arith, ints)) (omega arith) in
    omega (arith, ints)

times_negative : (a b : ℤ) (f : ℕ) → a ≤ℤ b → (b *ℤ negsuc f) ≤ℤ (a *ℤ negsuc f)
times_negative a b f h =
    let k = times_natural a b (suc f) h in
    let d = *ℤ-negsuc a f in
    let e = *ℤ-negsuc b f in
    omega (arith, ints)

among_times : (x y a b : ℤ) → x ≤ℤ a → a ≤ℤ y → LiesAmong (x *ℤ b) (y *ℤ b) (a *ℤ b)
among_times x y a (pos f) p q = among_rising _ _ _ (times_natural x a f p) (times_natural a y f q)
among_times x y a (negsuc f) p q = among_falling _ _ _ (times_negative a y f q) (times_negative x a f p)

among_times_right : (x y a b : ℤ) → x ≤ℤ b → b ≤ℤ y → LiesAmong (a *ℤ x) (a *ℤ y) (a *ℤ b)
among_times_right x y a b p q =
    subst (λ z. LiesAmong z (a *ℤ y) (a *ℤ b)) (*ℤ_comm x a)
    (subst (λ z. LiesAmong (x *ℤ a) z (a *ℤ b)) (*ℤ_comm y a)
    (subst (λ z. LiesAmong (x *ℤ a) (y *ℤ a) z) (*ℤ_comm b a) (among_times x y b a p q)))

pub times_at_ends : (s t : Span) → HasExtremesAtEnds (λ a b. a *ℤ b) s t
times_at_ends s t = record {
  left = λ a b p q. among_times s.lo s.hi a b p.0 p.1;
  right = λ a b p q. among_times_right t.lo t.hi a b q.0 q.1;
}

pub products_monotone : (k : IntType) (s t u v : Span) → is_size k.bytes ≡ true → Within s u → Within t v → interval_leq (products k s t) (products k u v) ≡ true
products_monotone k s t u v h w x = into_monotone k _ _ _ _ h
    (low_falls (λ a b. a *ℤ b) s t u v (times_at_ends u v) w x)
    (low_high (λ a b. a *ℤ b) s t)
    (high_rises (λ a b. a *ℤ b) s t u v (times_at_ends u v) w x)

pub products_stands : (k : IntType) (s t : Span) (a b c : ℤ) → is_size k.bytes ≡ true → Stands (Of s) a → Stands (Of t) b → result_of k (a *ℤ b) ≡ Some c → Stands (products k s t) c
products_stands k s t a b c h p q e =
    let r = corners_bound (λ a b. a *ℤ b) s t a b (times_at_ends s t) p q in
    into_stands k _ _ (a *ℤ b) c h r.lower r.upper e
