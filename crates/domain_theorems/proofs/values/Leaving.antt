-- Where some result leaves a type, some result of larger operands does.
use Rattle.std.specs.Prelude.{◌≡◌, ℕ, suc, ◌-◌, ◌*◌, ◌^◌, ◌≤◌, ℤ, pos, negsuc, neg_ℤ, unsigned_abs, ◌+ℤ◌, ◌-ℤ◌, ◌*ℤ◌, ◌≤ℤ◌, Bool, true, false, cond, not, ◌||◌, int_le, Some, None, refl}
use Rattle.std.specs.Int.{int_min, int_max}
use Rattle.std.proofs.Common.{arith, subst, inl, inr}
use Rattle.std.proofs.Math.Nat.{pow-le-pow_right}
use Rattle.std.proofs.lemmas.Int.{ints, clamps}
use Rattle.std.proofs.lemmas.Bool.{cond_both, and_parts, and_from, or_cases}
use Rattle.std.proofs.lemmas.Nat.{mul-le}
use lib.IntN.{*ℤ-negsuc, *ℤ_comm}
use lib.Signed.{≤ℤ_refl}
use Rattle.cc_base.specs.IntegerTypes.{in_type, least_of, greatest_of}
use Rattle.cc_base.specs.NumberRanges.{Range, range_met}
use Rattle.cc_base.specs.declared.int_types.IntType.{IntType}
use Rattle.cc_base.specs.declared.integer_operators.IntOp.{IntOp}
use Rattle.cc_base.specs.declared.integer_operators.IntOp.TheVariants.{Add, Sub, Mul, Div, Rem, And, Or, Xor, Shl, Shr}
use Rattle.cc_base.specs.declared.integer_operators.UnOp.{UnOp}
use Rattle.cc_base.specs.declared.integer_operators.UnOp.TheVariants.{Neg, Compl}
use Rattle.value_domain.specs.Values.ValueTables.{is_outside, scaled_leave, corners_leave, ranges_leave, negated_leave, range_fits}
use Rattle.domain_theorems.proofs.values.Flags.{Sets, not_sets}
use Rattle.domain_theorems.proofs.values.Ranges.{RangeBelow, le_true, times_rise, met_monotone}

-- the bounds are in order
abbrev pub AreOrdered : Range → Type 0
AreOrdered None = Unit {0}
AreOrdered (Some p) = p.0 ≤ℤ p.1

true_le : (a b : ℤ) → a ≤ℤ b → int_le a b ≡ true
true_le a b h = grind (arith, ints)

-- ---- two numbers that lie in the type have between them none that does not

of_type : (k : IntType) (z : ℤ) → in_type k z ≡ true → (least_of k ≤ℤ z) × (z ≤ℤ greatest_of k)
of_type k z h = let p = and_parts (int_le (least_of k) z) (int_le z (greatest_of k)) h in (le_true (least_of k) z p.0, le_true z (greatest_of k) p.1)

type_has : (k : IntType) (z : ℤ) → least_of k ≤ℤ z → z ≤ℤ greatest_of k → in_type k z ≡ true
type_has k z p q = and_from (int_le (least_of k) z) (int_le z (greatest_of k)) (true_le _ _ p) (true_le _ _ q)

type_between : (k : IntType) (x y z : ℤ) → in_type k x ≡ true → in_type k y ≡ true → x ≤ℤ z → z ≤ℤ y → in_type k z ≡ true
type_between k x y z p q h j = let a = of_type k x p in let b = of_type k y q in type_has k z (omega (arith, ints)) (omega (arith, ints))

both_fit : (a b : Bool) → (not a || not b) ≡ false → (a ≡ true) × (b ≡ true)
both_fit true true h = (refl, refl)
both_fit true false h = cc
both_fit false b h = cc

none_leaves : (a b : Bool) → a ≡ true → b ≡ true → (not a || not b) ≡ true → ⊥
none_leaves true true p q h = cc
none_leaves true false p q h = cc
none_leaves false b p q h = cc

either_false : (a b : Bool) → (a || b) ≡ false → (a ≡ false) × (b ≡ false)
either_false true b h = cc
either_false false b h = (refl, h)

-- a choice that is not false is true
unless_false : (a b : Bool) → (b ≡ false → a ≡ true → ⊥) → Sets a b
unless_false a true f h = refl
unless_false a false f h = absurd (f refl h)

two_more : (k : IntType) (a b x y : ℤ) → x ≤ℤ a → a ≤ℤ y → x ≤ℤ b → b ≤ℤ y → Sets (is_outside k a || is_outside k b) (is_outside k x || is_outside k y)
two_more k a b x y p q r s = unless_false (is_outside k a || is_outside k b) (is_outside k x || is_outside k y) (λ e h.
    let f = both_fit (in_type k x) (in_type k y) e in
    none_leaves (in_type k a) (in_type k b) (type_between k x y a f.0 f.1 p q) (type_between k x y b f.0 f.1 r s) h)

-- ---- products

-- z lies between x and y, whichever is the lesser
record LiesAmong (x y z : ℤ) : Type 0 where
  above : int_min x y ≤ℤ z
  below : z ≤ℤ int_max x y

type_among : (k : IntType) (x y z : ℤ) → in_type k x ≡ true → in_type k y ≡ true → LiesAmong x y z → in_type k z ≡ true
type_among k x y z p q h =
    let a = of_type k x p in
    let b = of_type k y q in
    let c = h.above in
    let d = h.below in
    type_has k z (omega (arith, ints, clamps)) (omega (arith, ints, clamps))

times_negative : (a b : ℤ) (f : ℕ) → a ≤ℤ b → (b *ℤ negsuc f) ≤ℤ (a *ℤ negsuc f)
times_negative a b f h =
    let k = times_rise a b (suc f) h in
    let d = *ℤ-negsuc a f in
    let e = *ℤ-negsuc b f in
    omega (arith, ints)

among_times : (x y a b : ℤ) → x ≤ℤ a → a ≤ℤ y → LiesAmong (x *ℤ b) (y *ℤ b) (a *ℤ b)
among_times x y a (pos f) p q = let i = times_rise x a f p in let j = times_rise a y f q in record { above = omega (arith, ints, clamps); below = omega (arith, ints, clamps) }
among_times x y a (negsuc f) p q = let i = times_negative x a f p in let j = times_negative a y f q in record { above = omega (arith, ints, clamps); below = omega (arith, ints, clamps) }

among_times_right : (x y a b : ℤ) → x ≤ℤ b → b ≤ℤ y → LiesAmong (a *ℤ x) (a *ℤ y) (a *ℤ b)
among_times_right x y a b p q =
    subst (λ z. LiesAmong z (a *ℤ y) (a *ℤ b)) (*ℤ_comm x a)
    (subst (λ z. LiesAmong (x *ℤ a) z (a *ℤ b)) (*ℤ_comm y a)
    (subst (λ z. LiesAmong (x *ℤ a) (y *ℤ a) z) (*ℤ_comm b a) (among_times x y b a p q)))

-- all products at the corners lie in the type
record FourFit (k : IntType) (p q : ℤ × ℤ) : Type 0 where
  first : in_type k (p.0 *ℤ q.0) ≡ true
  second : in_type k (p.0 *ℤ q.1) ≡ true
  third : in_type k (p.1 *ℤ q.0) ≡ true
  fourth : in_type k (p.1 *ℤ q.1) ≡ true

four_fit : (k : IntType) (p q : ℤ × ℤ) → corners_leave Mul k p q ≡ false → FourFit k p q
four_fit k p q h =
    let e = either_false (is_outside k (p.0 *ℤ q.0) || is_outside k (p.0 *ℤ q.1)) (is_outside k (p.1 *ℤ q.0) || is_outside k (p.1 *ℤ q.1)) h in
    let f = both_fit (in_type k (p.0 *ℤ q.0)) (in_type k (p.0 *ℤ q.1)) e.0 in
    let g = both_fit (in_type k (p.1 *ℤ q.0)) (in_type k (p.1 *ℤ q.1)) e.1 in
    record { first = f.0; second = f.1; third = g.0; fourth = g.1 }

-- and so does each product of numbers between them
product_fits : (k : IntType) (p q : ℤ × ℤ) (a b : ℤ) → FourFit k p q → p.0 ≤ℤ a → a ≤ℤ p.1 → q.0 ≤ℤ b → b ≤ℤ q.1 → in_type k (a *ℤ b) ≡ true
product_fits k p q a b f h i j m = type_among k (p.0 *ℤ b) (p.1 *ℤ b) (a *ℤ b)
    (type_among k (p.0 *ℤ q.0) (p.0 *ℤ q.1) (p.0 *ℤ b) f.first f.second (among_times_right q.0 q.1 p.0 b j m))
    (type_among k (p.1 *ℤ q.0) (p.1 *ℤ q.1) (p.1 *ℤ b) f.third f.fourth (among_times_right q.0 q.1 p.1 b j m))
    (among_times p.0 p.1 a b h i)

no_corner_leaves : (a b c d : Bool) → a ≡ true → b ≡ true → c ≡ true → d ≡ true → ((not a || not b) || (not c || not d)) ≡ true → ⊥
no_corner_leaves a b c d p q r s h = elim (or_cases (not a || not b) (not c || not d) h) [ inl e ↦ none_leaves a b p q e | inr e ↦ none_leaves c d r s e ]

products_more : (k : IntType) (p q u v : ℤ × ℤ) → p.0 ≤ℤ p.1 → q.0 ≤ℤ q.1 → RangeBelow (Some p) (Some u) → RangeBelow (Some q) (Some v) → Sets (corners_leave Mul k p q) (corners_leave Mul k u v)
products_more k p q u v a b h j = unless_false (corners_leave Mul k p q) (corners_leave Mul k u v) (λ e g.
    let f = four_fit k u v e in
    let h0 = h.0 in let h1 = h.1 in let j0 = j.0 in let j1 = j.1 in
    let up : p.0 ≤ℤ u.1 = omega (arith, ints) in
    let down : u.0 ≤ℤ p.1 = omega (arith, ints) in
    let right : q.0 ≤ℤ v.1 = omega (arith, ints) in
    let left : v.0 ≤ℤ q.1 = omega (arith, ints) in
    no_corner_leaves (in_type k (p.0 *ℤ q.0)) (in_type k (p.0 *ℤ q.1)) (in_type k (p.1 *ℤ q.0)) (in_type k (p.1 *ℤ q.1))
    (product_fits k u v p.0 q.0 f h.0 up j.0 right) (product_fits k u v p.0 q.1 f h.0 up left j.1)
    (product_fits k u v p.1 q.0 f down h.1 j.0 right) (product_fits k u v p.1 q.1 f down h.1 left j.1) g)

-- ---- shifts

power_rises : (m n : ℤ) → pos 0 ≤ℤ m → m ≤ℤ n → 2 ^ unsigned_abs m ≤ 2 ^ unsigned_abs n
power_rises (pos m) (pos n) p q = let r : m ≤ n = omega (arith, ints) in pow-le-pow_right (omega arith) r
power_rises (pos m) (negsuc n) p q = absurd (omega (arith, ints))
power_rises (negsuc m) n p q = absurd (omega (arith, ints))

scaled_rises : (a b m n : ℤ) → pos 0 ≤ℤ a → a ≤ℤ b → pos 0 ≤ℤ m → m ≤ℤ n → (a *ℤ pos (2 ^ unsigned_abs m)) ≤ℤ (b *ℤ pos (2 ^ unsigned_abs n))
scaled_rises (pos a) (pos b) m n p q r t =
    let o = power_rises m n r t in
    let l : a * 2 ^ unsigned_abs m ≤ b * 2 ^ unsigned_abs n = mul-le a (2 ^ unsigned_abs m) b (2 ^ unsigned_abs n) (omega (arith, ints)) o in
    omega (arith, ints)
scaled_rises (pos a) (negsuc b) m n p q r t = absurd (omega (arith, ints))
scaled_rises (negsuc a) b m n p q r t = absurd (omega (arith, ints))

scaled_natural : (a m : ℤ) → pos 0 ≤ℤ a → pos 0 ≤ℤ (a *ℤ pos (2 ^ unsigned_abs m))
scaled_natural (pos a) m h = omega (arith, ints)
scaled_natural (negsuc a) m h = absurd (omega (arith, ints))

least_low : (s : Bool) (n : ℕ) → cond s (negsuc n) (pos 0) ≤ℤ pos 0
least_low true n = omega (arith, ints)
least_low false n = omega (arith, ints)

-- a range from 0 on
abbrev IsNatural : Range → Type 0
IsNatural None = Unit {0}
IsNatural (Some p) = (pos 0 ≤ℤ p.0) × (p.0 ≤ℤ p.1)

natural_met : (x : Range) (d : ℤ) → IsNatural (range_met x (pos 0) d)
natural_met None d = tt
natural_met (Some p) d = cond_both (int_le (int_max p.0 (pos 0)) (int_min p.1 d)) (Some (int_max p.0 (pos 0), int_min p.1 d)) None IsNatural
    (λ e. (omega (arith, ints, clamps), le_true (int_max p.0 (pos 0)) (int_min p.1 d) e)) (λ e. tt)

scaled_more : (k : IntType) (x y u v : Range) → IsNatural x → IsNatural y → IsNatural u → IsNatural v → RangeBelow x u → RangeBelow y v → Sets (scaled_leave k x y) (scaled_leave k u v)
scaled_more k None y u v a b c d i j e = cc
scaled_more k (Some p) None u v a b c d i j e = cc
scaled_more k (Some p) (Some q) None v a b c d i j e = absurd i
scaled_more k (Some p) (Some q) (Some r) None a b c d i j e = absurd j
scaled_more k (Some p) (Some q) (Some r) (Some s) a b c d i j e = not_sets (in_type k (p.1 *ℤ pos (2 ^ unsigned_abs q.1))) (in_type k (r.1 *ℤ pos (2 ^ unsigned_abs s.1)))
    (λ f.
    let a0 = a.0 in let a1 = a.1 in let b0 = b.0 in let b1 = b.1 in
    let g = of_type k (r.1 *ℤ pos (2 ^ unsigned_abs s.1)) f in
    let m = scaled_rises p.1 r.1 q.1 s.1 (omega (arith, ints)) i.1 (omega (arith, ints)) j.1 in
    let o = scaled_natural p.1 q.1 (omega (arith, ints)) in
    let w : least_of k ≤ℤ pos 0 = least_low k.signed (2 ^ (8 * k.bytes - 1) - 1) in
    type_has k (p.1 *ℤ pos (2 ^ unsigned_abs q.1)) (omega (arith, ints)) (omega (arith, ints))) e

-- ---- all operators

corners_more : (op : IntOp) (k : IntType) (p q u v : ℤ × ℤ) → p.0 ≤ℤ p.1 → q.0 ≤ℤ q.1 → RangeBelow (Some p) (Some u) → RangeBelow (Some q) (Some v) → Sets (corners_leave op k p q) (corners_leave op k u v)
corners_more Add k p q u v a b h j e = let h0 = h.0 in let h1 = h.1 in let j0 = j.0 in let j1 = j.1 in
    two_more k (p.0 +ℤ q.0) (p.1 +ℤ q.1) (u.0 +ℤ v.0) (u.1 +ℤ v.1) (omega (arith, ints)) (omega (arith, ints)) (omega (arith, ints)) (omega (arith, ints)) e
corners_more Sub k p q u v a b h j e = let h0 = h.0 in let h1 = h.1 in let j0 = j.0 in let j1 = j.1 in
    two_more k (p.0 -ℤ q.1) (p.1 -ℤ q.0) (u.0 -ℤ v.1) (u.1 -ℤ v.0) (omega (arith, ints)) (omega (arith, ints)) (omega (arith, ints)) (omega (arith, ints)) e
corners_more Mul k p q u v a b h j e = products_more k p q u v a b h j e
corners_more Shl k p q u v a b h j e = scaled_more k (range_met (Some p) (pos 0) (greatest_of k)) (range_met (Some q) (pos 0) (pos (8 * k.bytes) -ℤ pos 1)) (range_met (Some u) (pos 0) (greatest_of k)) (range_met (Some v) (pos 0) (pos (8 * k.bytes) -ℤ pos 1))
    (natural_met (Some p) (greatest_of k)) (natural_met (Some q) (pos (8 * k.bytes) -ℤ pos 1)) (natural_met (Some u) (greatest_of k)) (natural_met (Some v) (pos (8 * k.bytes) -ℤ pos 1))
    (met_monotone (Some p) (Some u) (pos 0) (greatest_of k) (pos 0) (greatest_of k) h (≤ℤ_refl (pos 0)) (≤ℤ_refl (greatest_of k)))
    (met_monotone (Some q) (Some v) (pos 0) (pos (8 * k.bytes) -ℤ pos 1) (pos 0) (pos (8 * k.bytes) -ℤ pos 1) j (≤ℤ_refl (pos 0)) (≤ℤ_refl (pos (8 * k.bytes) -ℤ pos 1))) e
corners_more Div k p q u v a b h j e = e
corners_more Rem k p q u v a b h j e = e
corners_more And k p q u v a b h j e = e
corners_more Or k p q u v a b h j e = e
corners_more Xor k p q u v a b h j e = e
corners_more Shr k p q u v a b h j e = e

pub leave_more : (op : IntOp) (k : IntType) (x y u v : Range) → AreOrdered x → AreOrdered y → RangeBelow x u → RangeBelow y v → Sets (ranges_leave op k x y) (ranges_leave op k u v)
leave_more op k None y u v a b i j e = cc
leave_more op k (Some p) None u v a b i j e = cc
leave_more op k (Some p) (Some q) None v a b i j e = absurd i
leave_more op k (Some p) (Some q) (Some r) None a b i j e = absurd j
leave_more op k (Some p) (Some q) (Some r) (Some s) a b i j e = corners_more op k p q r s a b i j e

pub negated_more : (op : UnOp) (k : IntType) (x u : Range) → AreOrdered x → RangeBelow x u → Sets (negated_leave op k x) (negated_leave op k u)
negated_more op k None u a i e = cc
negated_more op k (Some p) None a i e = absurd i
negated_more Neg k (Some p) (Some r) a i e = let i0 = i.0 in let i1 = i.1 in
    two_more k (neg_ℤ p.1) (neg_ℤ p.0) (neg_ℤ r.1) (neg_ℤ r.0) (omega (arith, ints)) (omega (arith, ints)) (omega (arith, ints)) (omega (arith, ints)) e
negated_more Compl k (Some p) (Some r) a i e = e

-- where all numbers fit the type, those of a smaller range do
pub fits_less : (k : IntType) (x u : Range) → AreOrdered x → RangeBelow x u → Sets (range_fits k u) (range_fits k x)
fits_less k None u a i e = refl
fits_less k (Some p) None a i e = absurd i
fits_less k (Some p) (Some r) a i e =
    let i0 = i.0 in
    let i1 = i.1 in
    let f = and_parts (in_type k r.0) (in_type k r.1) e in
    and_from _ _ (type_between k r.0 r.1 p.0 f.0 f.1 i.0 (omega (arith, ints))) (type_between k r.0 r.1 p.1 f.0 f.1 (omega (arith, ints)) i.1)
