-- `<<` and `>>`.
use Rattle.std.specs.Prelude.{◌≡◌, ◌*◌, ◌^◌, ◌≤◌, ℤ, pos, negsuc, ◌≤ℤ◌, Bool, true, false, cond, int_le, int_lt, unsigned_abs, Some, None, refl}
use Rattle.std.specs.Int.{int_min, int_max}
use Rattle.std.proofs.Common.{arith, subst}
use Rattle.std.proofs.Math.Nat.{pow-le-pow_right}
use Rattle.std.proofs.lemmas.Int.{ints, clamps}
use Rattle.std.proofs.lemmas.Bool.{and_parts}
use Rattle.std.proofs.lemmas.Nat.{mul-le, pow_pos}
use Rattle.cc_base.specs.IntegerTypes.{is_size, in_type, greatest_of}
use Rattle.cc_base.specs.MachineArithmetic.{result_of, binary_result, is_count}
use Rattle.cc_base.specs.declared.int_types.IntType.{IntType}
use Rattle.cc_base.specs.declared.integer_operators.IntOp.TheVariants.{Shl, Shr}
use Rattle.interval_domain.specs.declared.intervals.spans.Span.{Span}
use Rattle.interval_domain.specs.declared.intervals.intervals.Interval.{Interval}
use Rattle.interval_domain.specs.declared.intervals.intervals.Interval.TheVariants.{Bottom, Of}
use Rattle.interval_domain.specs.Intervals.Spans.{between_or_empty, by_between, Stands}
use Rattle.interval_domain.specs.Intervals.IntervalOrder.{interval_leq}
use Rattle.interval_domain.specs.Intervals.Arithmetic.{shifted_left, shifted_right, scaled, scaled_by, halved, halved_by, counts}
use Rattle.interval_domain.specs.Intervals.Best.{le_true, stands_between}
use Rattle.interval_domain.proofs.intervals.Ranges.{range_facts}
use Rattle.domain_theorems.specs.Intervals.Kit.{lt_true, lt_false, rises, falls, some_same, Within, within, between_monotone, into_monotone, into_stands, met_monotone, met_stands, of_type, in_type_between}
use Rattle.domain_theorems.specs.Intervals.Corners.{LiesAmong, among_rising, among_falling, HasExtremesAtEnds, corners_monotone, corners_stands}

-- no number is below zero
abbrev IsNatural : Interval → Type 0
IsNatural Bottom = Unit {0}
IsNatural (Of s) = pos 0 ≤ℤ s.lo

natural_between : (a b : ℤ) → pos 0 ≤ℤ a → IsNatural (between_or_empty a b)
natural_between a b h = by_between IsNatural a b (λ o. h) (λ o. tt)

power_rises : (m n : ℤ) → pos 0 ≤ℤ m → m ≤ℤ n → 2 ^ unsigned_abs m ≤ 2 ^ unsigned_abs n
power_rises (pos m) (pos n) p q = let r : m ≤ n = omega (arith, ints) in pow-le-pow_right (omega arith) r
power_rises (pos m) (negsuc n) p q = absurd (omega (arith, ints))
power_rises (negsuc m) n p q = absurd (omega (arith, ints))

-- ---- defined counts

counts_natural : (k : IntType) (t : Span) → IsNatural (counts k t)
counts_natural k t = natural_between _ _ (omega (arith, ints, clamps))

counts_monotone : (k : IntType) (t v : Span) → Within t v → interval_leq (counts k t) (counts k v) ≡ true
counts_monotone k t v x = let p = x.lower in let q = x.upper in between_monotone _ _ _ _ (omega (arith, ints, clamps)) (omega (arith, ints, clamps))

counts_stands : (k : IntType) (t : Span) (b : ℤ) → is_count k b ≡ true → Stands (Of t) b → Stands (counts k t) b
counts_stands k t b h p =
    let c = and_parts (int_le (pos 0) b) (int_lt b (pos (8 * k.bytes))) h in
    let l = le_true (pos 0) b c.0 in
    let m = lt_true b (pos (8 * k.bytes)) c.1 in
    stands_between _ _ b (omega (arith, ints, clamps)) (omega (arith, ints, clamps))

-- ---- `<<`

scaled_rises : (a b m n : ℤ) → pos 0 ≤ℤ a → a ≤ℤ b → pos 0 ≤ℤ m → m ≤ℤ n → scaled a m ≤ℤ scaled b n
scaled_rises (pos a) (pos b) m n p q r t =
    let o = power_rises m n r t in
    let l : a * 2 ^ unsigned_abs m ≤ b * 2 ^ unsigned_abs n = mul-le a (2 ^ unsigned_abs m) b (2 ^ unsigned_abs n) (omega (arith, ints)) o in
    omega (arith, ints)
scaled_rises (pos a) (negsuc b) m n p q r t = absurd (omega (arith, ints))
scaled_rises (negsuc a) b m n p q r t = absurd (omega (arith, ints))

scaled_monotone : (k : IntType) (x y u v : Interval) → is_size k.bytes ≡ true → IsNatural x → IsNatural y → IsNatural u → IsNatural v → interval_leq x u ≡ true → interval_leq y v ≡ true → interval_leq (scaled_by k x y) (scaled_by k u v) ≡ true
scaled_monotone k Bottom y u v h a b c d p q = refl
scaled_monotone k (Of s) Bottom u v h a b c d p q = refl
scaled_monotone k (Of s) (Of t) Bottom v h a b c d p q = cc
scaled_monotone k (Of s) (Of t) (Of u) Bottom h a b c d p q = cc
scaled_monotone k (Of s) (Of t) (Of u) (Of v) h a b c d p q =
    let w = within s u p in
    let x = within t v q in
    let s' = s.ordered in
    let t' = t.ordered in
    into_monotone k _ _ _ _ h (scaled_rises u.lo s.lo v.lo t.lo c w.lower d x.lower) (scaled_rises s.lo s.hi t.lo t.hi a s' b t')
    (scaled_rises s.hi u.hi t.hi v.hi (omega (arith, ints)) w.upper (omega (arith, ints)) x.upper)

scaled_stands : (k : IntType) (x y : Interval) (a b c : ℤ) → is_size k.bytes ≡ true → IsNatural x → IsNatural y → Stands x a → Stands y b → result_of k (scaled a b) ≡ Some c → Stands (scaled_by k x y) c
scaled_stands k Bottom y a b c h m n p q e = absurd p
scaled_stands k (Of s) Bottom a b c h m n p q e = absurd q
scaled_stands k (Of s) (Of t) a b c h m n p q e =
    into_stands k _ _ (scaled a b) c h (scaled_rises s.lo a t.lo b m p.0 n q.0) (scaled_rises a s.hi b t.hi (omega (arith, ints)) p.1 (omega (arith, ints)) q.1) e

abbrev multiplicands : IntType → Span → Interval
multiplicands k s = between_or_empty (int_max s.lo (pos 0)) (int_min s.hi (greatest_of k))

multiplicands_natural : (k : IntType) (s : Span) → IsNatural (multiplicands k s)
multiplicands_natural k s = natural_between _ _ (omega (arith, ints, clamps))

pub shifted_left_monotone : (k : IntType) (s t u v : Span) → is_size k.bytes ≡ true → Within s u → Within t v → interval_leq (shifted_left k s t) (shifted_left k u v) ≡ true
shifted_left_monotone k s t u v h w x =
    let p = w.lower in
    let q = w.upper in
    scaled_monotone k (multiplicands k s) (counts k t) (multiplicands k u) (counts k v) h (multiplicands_natural k s) (counts_natural k t) (multiplicands_natural k u) (counts_natural k v)
    (between_monotone _ _ _ _ (omega (arith, ints, clamps)) (omega (arith, ints, clamps))) (counts_monotone k t v x)

-- a shift to the left that comes
record Shifts (k : IntType) (a b c : ℤ) : Type 0 where
  counts : is_count k b ≡ true
  natural : int_lt a (pos 0) ≡ false
  gives : result_of k (scaled a b) ≡ Some c

shifts_at : (k : IntType) (a b c : ℤ) (count below : Bool) → is_count k b ≡ count → int_lt a (pos 0) ≡ below → cond count (cond below None (result_of k (scaled a b))) None ≡ Some c → Shifts k a b c
shifts_at k a b c true true p q e = cc
shifts_at k a b c true false p q e = record { counts = p; natural = q; gives = e }
shifts_at k a b c false below p q e = cc

pub shifted_left_stands : (k : IntType) (s t : Span) (a b c : ℤ) → is_size k.bytes ≡ true → Stands (Of s) a → Stands (Of t) b → in_type k a ≡ true → binary_result Shl k a b ≡ Some c → Stands (shifted_left k s t) c
shifted_left_stands k s t a b c h p q i e =
    let g = shifts_at k a b c (is_count k b) (int_lt a (pos 0)) refl refl e in
    let o = of_type k a i in
    let l = lt_false a (pos 0) g.natural in
    scaled_stands k (multiplicands k s) (counts k t) a b c h (multiplicands_natural k s) (counts_natural k t)
    (stands_between _ _ a (omega (arith, ints, clamps)) (omega (arith, ints, clamps))) (counts_stands k t b g.counts q) g.gives

-- ---- `>>`

number_rises : (a b n : ℤ) → a ≤ℤ b → halved a n ≤ℤ halved b n
number_rises (pos a) (pos b) n h = let r = rises a b (2 ^ unsigned_abs n) (pow_pos (unsigned_abs n)) (omega (arith, ints)) in omega (arith, ints)
number_rises (pos a) (negsuc b) n h = absurd (omega (arith, ints))
number_rises (negsuc a) (pos b) n h = omega (arith, ints)
number_rises (negsuc a) (negsuc b) n h = let r = rises b a (2 ^ unsigned_abs n) (pow_pos (unsigned_abs n)) (omega (arith, ints)) in omega (arith, ints)

count_among : (a l m n : ℤ) → pos 0 ≤ℤ l → l ≤ℤ m → m ≤ℤ n → LiesAmong (halved a l) (halved a n) (halved a m)
count_among (pos a) l m n h p q =
    let r = falls a (2 ^ unsigned_abs l) (2 ^ unsigned_abs m) (pow_pos (unsigned_abs l)) (power_rises l m h p) in
    let t = falls a (2 ^ unsigned_abs m) (2 ^ unsigned_abs n) (pow_pos (unsigned_abs m)) (power_rises m n (omega (arith, ints)) q) in
    among_falling _ _ _ (omega (arith, ints)) (omega (arith, ints))
count_among (negsuc a) l m n h p q =
    let r = falls a (2 ^ unsigned_abs l) (2 ^ unsigned_abs m) (pow_pos (unsigned_abs l)) (power_rises l m h p) in
    let t = falls a (2 ^ unsigned_abs m) (2 ^ unsigned_abs n) (pow_pos (unsigned_abs m)) (power_rises m n (omega (arith, ints)) q) in
    among_rising _ _ _ (omega (arith, ints)) (omega (arith, ints))

halved_at_ends : (s t : Span) → pos 0 ≤ℤ t.lo → HasExtremesAtEnds halved s t
halved_at_ends s t h = record {
  left = λ a b p q. among_rising _ _ _ (number_rises s.lo a b p.0) (number_rises a s.hi b p.1);
  right = λ a b p q. count_among a t.lo b t.hi h q.0 q.1;
}

halved_monotone : (s u : Span) (x y : Interval) → Within s u → IsNatural y → interval_leq x y ≡ true → interval_leq (halved_by s x) (halved_by u y) ≡ true
halved_monotone s u Bottom y w n h = refl
halved_monotone s u (Of t) Bottom w n h = cc
halved_monotone s u (Of t) (Of v) w n h = corners_monotone halved s t u v (halved_at_ends u v n) w (within t v h)

halved_stands : (s : Span) (y : Interval) (a b : ℤ) → IsNatural y → Stands (Of s) a → Stands y b → Stands (halved_by s y) (halved a b)
halved_stands s Bottom a b n p q = absurd q
halved_stands s (Of t) a b n p q = corners_stands halved s t a b (halved_at_ends s t n) p q

pub shifted_right_monotone : (k : IntType) (s t u v : Span) → Within s u → Within t v → interval_leq (shifted_right k s t) (shifted_right k u v) ≡ true
shifted_right_monotone k s t u v w x = met_monotone k _ _ (halved_monotone s u (counts k t) (counts k v) w (counts_natural k v) (counts_monotone k t v x))

-- a number shifted to the right stays in its type
halved_fits : (k : IntType) (a b : ℤ) → is_size k.bytes ≡ true → in_type k a ≡ true → in_type k (halved a b) ≡ true
halved_fits k (pos a) b h i =
    let f = range_facts k h in
    let l = f.least_high in
    let o = of_type k (pos a) i in
    let r = falls a 1 (2 ^ unsigned_abs b) (omega arith) (pow_pos (unsigned_abs b)) in
    in_type_between k _ (omega (arith, ints)) (omega (arith, ints))
halved_fits k (negsuc a) b h i =
    let f = range_facts k h in
    let l = f.greatest_low in
    let o = of_type k (negsuc a) i in
    let r = falls a 1 (2 ^ unsigned_abs b) (omega arith) (pow_pos (unsigned_abs b)) in
    in_type_between k _ (omega (arith, ints)) (omega (arith, ints))

halves_at : (k : IntType) (a b c : ℤ) (count : Bool) → is_count k b ≡ count → cond count (Some (halved a b)) None ≡ Some c → (is_count k b ≡ true) × (halved a b ≡ c)
halves_at k a b c true p e = (p, some_same _ _ e)
halves_at k a b c false p e = cc

pub shifted_right_stands : (k : IntType) (s t : Span) (a b c : ℤ) → is_size k.bytes ≡ true → Stands (Of s) a → Stands (Of t) b → in_type k a ≡ true → binary_result Shr k a b ≡ Some c → Stands (shifted_right k s t) c
shifted_right_stands k s t a b c h p q i e =
    let g = halves_at k a b c (is_count k b) refl e in
    subst (Stands (shifted_right k s t)) g.1 (met_stands k _ (halved a b) (halved_stands s (counts k t) a b (counts_natural k t) p (counts_stands k t b g.0 q)) (halved_fits k a b h i))
