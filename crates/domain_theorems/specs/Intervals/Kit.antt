-- A small kit: larger bounds make larger intervals.
use Rattle.std.specs.Prelude.{◌≡◌, ℕ, ◌*◌, ◌/◌, ◌<◌, ◌≤◌, ℤ, ◌≤ℤ◌, ◌<ℤ◌, true, false, int_le, int_lt, Some, refl}
use Rattle.std.specs.Int.{int_min, int_max}
use Rattle.std.proofs.Common.{arith, subst}
use Rattle.std.proofs.lemmas.Int.{ints, clamps}
use Rattle.std.proofs.lemmas.Bool.{and_parts, and_from}
use Rattle.std.proofs.lemmas.Nat.{mul-le, le-div, div-add-mod'}
use Rattle.cc_base.specs.IntegerTypes.{is_size, least_of, greatest_of, in_type}
use Rattle.cc_base.specs.MachineArithmetic.{result_of}
use Rattle.cc_base.specs.declared.int_types.IntType.{IntType}
use Rattle.interval_domain.specs.declared.intervals.spans.Span.{Span}
use Rattle.interval_domain.specs.declared.intervals.intervals.Interval.{Interval}
use Rattle.interval_domain.specs.declared.intervals.intervals.Interval.TheVariants.{Bottom, Of}
use Rattle.interval_domain.specs.Intervals.Spans.{between_or_empty, same_spans, Stands}
use Rattle.interval_domain.specs.Intervals.IntervalOrder.{interval_leq, interval_join, leq_transitive, leq_join_left, leq_join_right, leq_join_least}
use Rattle.interval_domain.specs.Intervals.Arithmetic.{clamped, whole, into, met}
use Rattle.interval_domain.specs.Intervals.Best.{IsLeastWith, le_true, true_le, below_if, stands_between, into_best}

-- ---- tests and bounds

pub lt_true : (a b : ℤ) → int_lt a b ≡ true → a <ℤ b
lt_true a b h = grind (arith, ints)

pub lt_false : (a b : ℤ) → int_lt a b ≡ false → b ≤ℤ a
lt_false a b h = grind (arith, ints)

pub some_same : (a b : ℤ) → Some a ≡ Some b → a ≡ b
some_same a b e = cc

pub rises : (a b m : ℕ) → 0 < m → a ≤ b → a / m ≤ b / m
rises a b m h k = let e = div-add-mod' a m in le-div (a / m) b m h (omega arith)

pub falls : (a m n : ℕ) → 0 < m → m ≤ n → a / n ≤ a / m
falls a m n h k =
    let e = div-add-mod' a n in
    let l : a / n * m ≤ a / n * n = mul-le (a / n) m (a / n) n (omega arith) k in
    le-div (a / n) a m h (omega arith)

-- the numbers of s are numbers of u
pub record Within (s u : Span) : Type 0 where
  pub lower : u.lo ≤ℤ s.lo
  pub upper : s.hi ≤ℤ u.hi

pub within : (s u : Span) → interval_leq (Of s) (Of u) ≡ true → Within s u
within s u h = let p = and_parts (int_le u.lo s.lo) (int_le s.hi u.hi) h in record { lower = le_true _ _ p.0; upper = le_true _ _ p.1 }

pub within_stands : (s u : Span) (a : ℤ) → Within s u → Stands (Of s) a → Stands (Of u) a
within_stands s u a w h = let p = w.lower in let q = w.upper in (omega (arith, ints), omega (arith, ints))

-- ---- by bounds

pub between_monotone : (a b c d : ℤ) → c ≤ℤ a → b ≤ℤ d → interval_leq (between_or_empty a b) (between_or_empty c d) ≡ true
between_monotone a b c d p q = below_if a b (between_or_empty c d) (λ o. (stands_between c d a p (omega (arith, ints)), stands_between c d b (omega (arith, ints)) q))

pub clamped_monotone : (k : IntType) (a b c d : ℤ) → c ≤ℤ a → b ≤ℤ d → interval_leq (clamped k a b) (clamped k c d) ≡ true
clamped_monotone k a b c d p q = between_monotone _ _ _ _ (omega (arith, ints, clamps)) (omega (arith, ints, clamps))

pub clamped_whole : (k : IntType) (a b : ℤ) → interval_leq (clamped k a b) (whole k) ≡ true
clamped_whole k a b = between_monotone _ _ _ _ (omega (arith, ints, clamps)) (omega (arith, ints, clamps))

-- a number of the type lies between the ends of the type
pub of_type : (k : IntType) (z : ℤ) → in_type k z ≡ true → (least_of k ≤ℤ z) × (z ≤ℤ greatest_of k)
of_type k z h = let p = and_parts (int_le (least_of k) z) (int_le z (greatest_of k)) h in (le_true _ _ p.0, le_true _ _ p.1)

-- a number between the ends of the type is one of it
pub in_type_between : (k : IntType) (z : ℤ) → least_of k ≤ℤ z → z ≤ℤ greatest_of k → in_type k z ≡ true
in_type_between k z p q = and_from (int_le (least_of k) z) (int_le z (greatest_of k)) (true_le _ _ p) (true_le _ _ q)

pub clamped_stands : (k : IntType) (a b z : ℤ) → a ≤ℤ z → z ≤ℤ b → in_type k z ≡ true → Stands (clamped k a b) z
clamped_stands k a b z p q h = let t = of_type k z h in stands_between _ _ z (omega (arith, ints, clamps)) (omega (arith, ints, clamps))

pub into_monotone : (k : IntType) (a b c d : ℤ) → is_size k.bytes ≡ true → c ≤ℤ a → a ≤ℤ b → b ≤ℤ d → interval_leq (into k a b) (into k c d) ≡ true
into_monotone k a b c d h p o q = (into_best k a b h o).least (into k c d) (λ z g.
    let l = g.lower in
    let u = g.upper in
    (into_best k c d h (omega (arith, ints))).holds z (record { from = g.from; lower = omega (arith, ints); upper = omega (arith, ints); gives = g.gives }))

pub into_stands : (k : IntType) (a b x z : ℤ) → is_size k.bytes ≡ true → a ≤ℤ x → x ≤ℤ b → result_of k x ≡ Some z → Stands (into k a b) z
into_stands k a b x z h p q e = (into_best k a b h (omega (arith, ints))).holds z (record { from = x; lower = p; upper = q; gives = e })

-- an interval of one number is below each that has it, and empty where the number is not of the type
pub single_below : (a : ℤ) (y : Interval) → Stands y a → interval_leq (between_or_empty a a) y ≡ true
single_below a y h = below_if a a y (λ o. (h, h))

pub clamped_single_below : (k : IntType) (a : ℤ) (y : Interval) → (in_type k a ≡ true → Stands y a) → interval_leq (clamped k a a) y ≡ true
clamped_single_below k a y f = below_if _ _ y (λ (o : int_max a (least_of k) ≤ℤ int_min a (greatest_of k)).
    let h : Stands y a = f (in_type_between k a (omega (arith, ints, clamps)) (omega (arith, ints, clamps))) in
    let p : a ≡ int_max a (least_of k) = omega (arith, ints, clamps) in
    let q : a ≡ int_min a (greatest_of k) = omega (arith, ints, clamps) in
    (subst (Stands y) p h, subst (Stands y) q h))

-- a span within one of a single number is that one
pub same_single : (s u : Span) → Within s u → u.lo ≡ u.hi → s ≡ u
same_single s u w e =
    let p = w.lower in
    let q = w.upper in
    let o = s.ordered in
    same_spans s u (omega (arith, ints)) (omega (arith, ints))

-- ---- by intervals

-- of the least intervals with two properties, the weaker one has the larger
pub least_monotone : (P Q : ℤ → Type 0) (x y : Interval) → ((z : ℤ) → P z → Q z) → IsLeastWith P x → IsLeastWith Q y → interval_leq x y ≡ true
least_monotone P Q x y f g h = g.least y (λ z p. h.holds z (f z p))

pub met_monotone : (k : IntType) (x y : Interval) → interval_leq x y ≡ true → interval_leq (met k x) (met k y) ≡ true
met_monotone k Bottom y h = refl
met_monotone k (Of s) Bottom h = cc
met_monotone k (Of s) (Of t) h = let w = within s t h in clamped_monotone k _ _ _ _ w.lower w.upper

pub met_stands : (k : IntType) (x : Interval) (z : ℤ) → Stands x z → in_type k z ≡ true → Stands (met k x) z
met_stands k Bottom z h t = absurd h
met_stands k (Of s) z h t = clamped_stands k s.lo s.hi z h.0 h.1 t

pub join_monotone : (x y u v : Interval) → interval_leq x u ≡ true → interval_leq y v ≡ true → interval_leq (interval_join x y) (interval_join u v) ≡ true
join_monotone x y u v h k = leq_join_least x y (interval_join u v)
    (leq_transitive x u (interval_join u v) h (leq_join_left u v))
    (leq_transitive y v (interval_join u v) k (leq_join_right u v))
