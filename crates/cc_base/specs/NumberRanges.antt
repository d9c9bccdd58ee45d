-- Ranges of numbers: the least and the greatest, or nothing.
use Rattle.std.specs.Prelude.{ℕ, suc, ◌+◌, ◌*◌, ◌^◌, ◌<◌, ◌≤◌, neg_ℤ, ℤ, pos, negsuc, ◌+ℤ◌, ◌-ℤ◌, ◌*ℤ◌, ◌≤ℤ◌, FitsSigned, Bool, false, cond, int_le, int_div, ◌&&◌, Option, Some, None}
use Rattle.std.specs.Ordering.{int_eq}
use Rattle.std.specs.Int.{int_min, int_max, w128}
use Rattle.std.proofs.Common.{arith}
use Rattle.std.proofs.lemmas.Int.{ints, clamps}
use Rattle.std.proofs.lemmas.Bool.{cond_both}
use Rattle.std.proofs.lemmas.Nat.{mul-le}
use lib.IntN.{negsuc-*ℤ-pos}

abbrev pub Range : Type 0
Range = Option (ℤ × ℤ)

-- the numbers from a to b, of which there may be none
abbrev pub range_between : ℤ → ℤ → Range
range_between a b = cond (int_le a b) (Some (a, b)) None

-- the sums of a number of each
abbrev pub range_sum : Range → Range → Range
range_sum None y = None
range_sum (Some p) None = None
range_sum (Some p) (Some q) = Some (p.0 +ℤ q.0, p.1 +ℤ q.1)

-- the differences of a number of each
abbrev pub range_difference : Range → Range → Range
range_difference None y = None
range_difference (Some p) None = None
range_difference (Some p) (Some q) = Some (p.0 -ℤ q.1, p.1 -ℤ q.0)

-- the numbers times a factor that is not negative
abbrev pub range_times : Range → ℕ → Range
range_times None m = None
range_times (Some p) m = Some (p.0 *ℤ pos m, p.1 *ℤ pos m)

-- the numbers divided by a divisor above 0, truncated towards zero
abbrev pub range_over : Range → ℕ → Range
range_over None m = None
range_over (Some p) m = Some (int_div p.0 (pos m), int_div p.1 (pos m))

-- the numbers that lie from a to b
abbrev pub range_met : Range → ℤ → ℤ → Range
range_met None a b = None
range_met (Some p) a b = range_between (int_max p.0 a) (int_min p.1 b)

-- the numbers, each moved to the nearest one from a to b
abbrev pub range_clamped : Range → ℤ → ℤ → Range
range_clamped None a b = None
range_clamped (Some p) a b = Some (int_min (int_max p.0 a) b, int_min (int_max p.1 a) b)

-- some number is in both
abbrev pub ranges_meet : Range → Range → Bool
ranges_meet None y = false
ranges_meet (Some p) None = false
ranges_meet (Some p) (Some q) = int_le p.0 q.1 && int_le q.0 p.1

-- both have one number, and it is the same
abbrev pub ranges_same_one : Range → Range → Bool
ranges_same_one None y = false
ranges_same_one (Some p) None = false
ranges_same_one (Some p) (Some q) = int_eq p.0 p.1 && (int_eq q.0 q.1 && int_eq p.0 q.0)

-- the greatest number, or a default
abbrev pub upper_or : ℤ → Range → ℤ
upper_or d None = d
upper_or d (Some p) = p.1

-- both bounds fit 128 bits
abbrev pub FitsRange : Range → Type 0
FitsRange None = Unit {0}
FitsRange (Some p) = FitsSigned w128 p.0 × FitsSigned w128 p.1

-- the bounds are in order and lie from -m to m
abbrev pub LiesWithin : ℕ → Range → Type 0
LiesWithin m None = Unit {0}
LiesWithin m (Some p) = (neg_ℤ (pos m) ≤ℤ p.0) × (p.0 ≤ℤ p.1) × (p.1 ≤ℤ pos m)

pub lies_sum : (x y : Range) (m n : ℕ) → LiesWithin m x → LiesWithin n y → LiesWithin (m + n) (range_sum x y)
lies_sum None y m n h k = tt
lies_sum (Some p) None m n h k = tt
lies_sum (Some p) (Some q) m n h k = (omega (arith, ints), omega (arith, ints), omega (arith, ints))

pub lies_difference : (x y : Range) (m n : ℕ) → LiesWithin m x → LiesWithin n y → LiesWithin (m + n) (range_difference x y)
lies_difference None y m n h k = tt
lies_difference (Some p) None m n h k = tt
lies_difference (Some p) (Some q) m n h k = (omega (arith, ints), omega (arith, ints), omega (arith, ints))

times_at_most : (a : ℤ) (m f : ℕ) → a ≤ℤ pos m → (a *ℤ pos f) ≤ℤ pos (m * f)
times_at_most (pos a) m f h = let k : a * f ≤ m * f = mul-le a f m f (omega (arith, ints)) (omega arith) in omega (arith, ints)
times_at_most (negsuc a) m f h = let e = negsuc-*ℤ-pos a f in omega (arith, ints)

times_at_least : (a : ℤ) (m f : ℕ) → neg_ℤ (pos m) ≤ℤ a → neg_ℤ (pos (m * f)) ≤ℤ (a *ℤ pos f)
times_at_least (pos a) m f h = omega (arith, ints)
times_at_least (negsuc a) m f h =
    let e = negsuc-*ℤ-pos a f in
    let k : suc a * f ≤ m * f = mul-le (suc a) f m f (omega (arith, ints)) (omega arith) in
    omega (arith, ints)

times_rise : (a b : ℤ) (f : ℕ) → a ≤ℤ b → (a *ℤ pos f) ≤ℤ (b *ℤ pos f)
times_rise (pos a) (pos b) f h = let k : a * f ≤ b * f = mul-le a f b f (omega (arith, ints)) (omega arith) in omega (arith, ints)
times_rise (pos a) (negsuc b) f h = absurd (omega (arith, ints))
times_rise (negsuc a) (pos b) f h = let e = negsuc-*ℤ-pos a f in omega (arith, ints)
times_rise (negsuc a) (negsuc b) f h =
    let e = negsuc-*ℤ-pos a f in
    let d = negsuc-*ℤ-pos b f in
    let k : suc b * f ≤ suc a * f = mul-le (suc b) f (suc a) f (omega (arith, ints)) (omega arith) in
    omega (arith, ints)

pub lies_times : (x : Range) (m f : ℕ) → LiesWithin m x → LiesWithin (m * f) (range_times x f)
lies_times None m f h = tt
lies_times (Some p) m f h = (times_at_least p.0 m f h.0, times_rise p.0 p.1 f h.1, times_at_most p.1 m f h.2)

pub lies_more : (x : Range) (m n : ℕ) → m ≤ n → LiesWithin m x → LiesWithin n x
lies_more None m n e h = tt
lies_more (Some p) m n e h = (omega (arith, ints), h.1, omega (arith, ints))

pub lies_met : (x : Range) (a b : ℤ) (m : ℕ) → LiesWithin m x → LiesWithin m (range_met x a b)
lies_met None a b m h = tt
lies_met (Some p) a b m h = cond_both (int_le (int_max p.0 a) (int_min p.1 b)) (Some (int_max p.0 a, int_min p.1 b)) None (LiesWithin m)
    (λ e. (omega (arith, ints, clamps), grind (arith, ints), omega (arith, ints, clamps))) (λ e. tt)

pub lies_fits : (x : Range) (m : ℕ) → m < 2 ^ 127 → LiesWithin m x → FitsRange x
lies_fits None m e h = tt
lies_fits (Some p) m e h = (omega (arith, ints), omega (arith, ints))

pub lies_upper : (x : Range) (m : ℕ) → LiesWithin m x → (neg_ℤ (pos m) ≤ℤ upper_or (pos 0) x) × (upper_or (pos 0) x ≤ℤ pos m)
lies_upper None m h = (omega (arith, ints), omega (arith, ints))
lies_upper (Some p) m h = (omega (arith, ints), omega (arith, ints))
