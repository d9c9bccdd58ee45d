-- Four numbers lie in one block exactly where the least and the greatest of them do, and then wrapping keeps their order.
use Rattle.std.specs.Prelude.{◌≡◌, ℕ, ◌*◌, ◌/◌, ◌<◌, ◌≤◌, ℤ, pos, negsuc, ◌-ℤ◌, ◌≤ℤ◌, Bool, true, false, cond, int_lt, refl}
use Rattle.std.specs.Int.{int_min, int_max, int_div_euclid, int_rem_euclid}
use Rattle.std.specs.Ordering.{int_eq}
use Rattle.std.proofs.Common.{arith, ap, ap₂, ◌∙◌, sym}
use Rattle.std.proofs.lemmas.Int.{ints, clamps}
use Rattle.std.proofs.lemmas.Bool.{cond_both, and_from, and_parts}
use Rattle.std.proofs.lemmas.Bool.Decides.{Decides-int_eq}
use Rattle.std.proofs.lemmas.Nat.{div-add-mod', le-div, pow_pos}
use Rattle.cc_base.specs.IntegerTypes.{modulus, least_of, wrap_into, block_of}
use Rattle.cc_base.specs.declared.int_types.IntType.{IntType}
use Rattle.interval_domain.specs.declared.intervals.intervals.Interval.{Interval}
use Rattle.interval_domain.specs.Numbers.TurnedNumbers.{one_block}
use Rattle.interval_domain.specs.Intervals.Spans.{between_or_empty}
use Rattle.interval_domain.specs.Intervals.Arithmetic.{least_of_four, greatest_of_four, whole, wrapped}

-- ---- quotients and remainders

div_rises : (a b m : ℕ) → 0 < m → a ≤ b → a / m ≤ b / m
div_rises a b m h k = let e = div-add-mod' a m in le-div (a / m) b m h (omega arith)

pub quotient_rises : (x y : ℤ) (m : ℕ) → 0 < m → x ≤ℤ y → int_div_euclid x (pos m) ≤ℤ int_div_euclid y (pos m)
quotient_rises (pos a) (pos b) m h k = let r = div_rises a b m h (omega (arith, ints)) in omega (arith, ints)
quotient_rises (pos a) (negsuc b) m h k = absurd (omega (arith, ints))
quotient_rises (negsuc a) (pos b) m h k = omega (arith, ints)
quotient_rises (negsuc a) (negsuc b) m h k = let r = div_rises b a m h (omega (arith, ints)) in omega (arith, ints)

pos_same : (a b : ℕ) → pos a ≡ pos b → a ≡ b
pos_same a b e = cc

neg_same : (a b : ℕ) → negsuc a ≡ negsuc b → a ≡ b
neg_same a b e = cc

-- numbers with one quotient are as far from their remainders
pub same_base : (x y : ℤ) (m : ℕ) → 0 < m → int_div_euclid x (pos m) ≡ int_div_euclid y (pos m) → (x -ℤ int_rem_euclid x (pos m)) ≡ (y -ℤ int_rem_euclid y (pos m))
same_base (pos a) (pos b) m h e =
    let p : a / m * m ≡ b / m * m = ap (λ q. q * m) (pos_same (a / m) (b / m) e) in
    let c = div-add-mod' a m in
    let d = div-add-mod' b m in
    omega (arith, ints)
same_base (pos a) (negsuc b) m h e = cc
same_base (negsuc a) (pos b) m h e = cc
same_base (negsuc a) (negsuc b) m h e =
    let p : a / m * m ≡ b / m * m = ap (λ q. q * m) (neg_same (a / m) (b / m) e) in
    let c = div-add-mod' a m in
    let d = div-add-mod' b m in
    omega (arith, ints)

-- ---- blocks of a type

pub block_rises : (k : IntType) (x y : ℤ) → x ≤ℤ y → block_of k x ≤ℤ block_of k y
block_rises k x y h = quotient_rises (x -ℤ least_of k) (y -ℤ least_of k) (modulus k) (pow_pos (8 * k.bytes)) (omega (arith, ints))

pub wrap_shifts : (k : IntType) (x y : ℤ) → block_of k x ≡ block_of k y → (x -ℤ wrap_into k x) ≡ (y -ℤ wrap_into k y)
wrap_shifts k x y e = let p = same_base (x -ℤ least_of k) (y -ℤ least_of k) (modulus k) (pow_pos (8 * k.bytes)) e in omega (arith, ints)

-- ---- the least and the greatest of four

least_is : (P : ℤ → Type 0) (a b : ℤ) → P a → P b → P (int_min a b)
least_is P a b p q = cond_both (int_lt b a) b a P (λ _. q) (λ _. p)

greatest_is : (P : ℤ → Type 0) (a b : ℤ) → P a → P b → P (int_max a b)
greatest_is P a b p q = cond_both (int_lt b a) a b P (λ _. p) (λ _. q)

pub least_of_four_is : (P : ℤ → Type 0) (a b c d : ℤ) → P a → P b → P c → P d → P (least_of_four a b c d)
least_of_four_is P a b c d p q r s = least_is P _ _ (least_is P a b p q) (least_is P c d r s)

pub greatest_of_four_is : (P : ℤ → Type 0) (a b c d : ℤ) → P a → P b → P c → P d → P (greatest_of_four a b c d)
greatest_of_four_is P a b c d p q r s = greatest_is P _ _ (greatest_is P a b p q) (greatest_is P c d r s)

least_shifts : (a b x y d : ℤ) → x ≡ (a -ℤ d) → y ≡ (b -ℤ d) → int_min x y ≡ (int_min a b -ℤ d)
least_shifts a b x y d e f = omega (arith, ints, clamps)

greatest_shifts : (a b x y d : ℤ) → x ≡ (a -ℤ d) → y ≡ (b -ℤ d) → int_max x y ≡ (int_max a b -ℤ d)
greatest_shifts a b x y d e f = omega (arith, ints, clamps)

pub record Bounding (l u z : ℤ) : Type 0 where
  pub lower : l ≤ℤ z
  pub upper : z ≤ℤ u

pub four_lie : (a b c d : ℤ) → Bounding (least_of_four a b c d) (greatest_of_four a b c d) a × (Bounding (least_of_four a b c d) (greatest_of_four a b c d) b × (Bounding (least_of_four a b c d) (greatest_of_four a b c d) c × Bounding (least_of_four a b c d) (greatest_of_four a b c d) d))
four_lie a b c d = (record { lower = omega (arith, ints, clamps); upper = omega (arith, ints, clamps) }, (record { lower = omega (arith, ints, clamps); upper = omega (arith, ints, clamps) }, (record { lower = omega (arith, ints, clamps); upper = omega (arith, ints, clamps) }, record { lower = omega (arith, ints, clamps); upper = omega (arith, ints, clamps) })))

-- ---- wrapping the hull of four numbers

eq_from : (a b : ℤ) → int_eq a b ≡ true → a ≡ b
eq_from a b h = (Decides-int_eq a b).0 h

eq_to : (a b : ℤ) → a ≡ b → int_eq a b ≡ true
eq_to a b e = (Decides-int_eq a b).1 e

squeezed : (k : IntType) (l u z : ℤ) → Bounding l u z → block_of k l ≡ block_of k u → block_of k z ≡ block_of k l
squeezed k l u z h e =
    let p = block_rises k l z h.lower in
    let q = block_rises k z u h.upper in
    omega (arith, ints)

module _ (k : IntType) (a b c d : ℤ) where
  abbrev low : ℤ
  low = least_of_four a b c d

  abbrev high : ℤ
  high = greatest_of_four a b c d

  ends_from_all : one_block (block_of k a) (block_of k b) (block_of k c) (block_of k d) ≡ true → int_eq (block_of k low) (block_of k high) ≡ true
  ends_from_all h =
      let p = and_parts _ _ h in
      let q = and_parts _ _ p.1 in
      let P : ℤ → Type 0 = λ z. block_of k z ≡ block_of k a in
      let e = sym (eq_from _ _ p.0) in
      let f = sym (eq_from _ _ q.0) in
      let g = sym (eq_from _ _ q.1) in
      eq_to _ _ (least_of_four_is P a b c d refl e f g ∙ sym (greatest_of_four_is P a b c d refl e f g))

  all_from_ends : int_eq (block_of k low) (block_of k high) ≡ true → one_block (block_of k a) (block_of k b) (block_of k c) (block_of k d) ≡ true
  all_from_ends h =
      let e = eq_from _ _ h in
      let l = four_lie a b c d in
      let p = squeezed k low high a l.0 e in
      let q = squeezed k low high b l.1.0 e in
      let r = squeezed k low high c l.1.1.0 e in
      let s = squeezed k low high d l.1.1.1 e in
      and_from _ _ (eq_to _ _ (p ∙ sym q)) (and_from _ _ (eq_to _ _ (p ∙ sym r)) (eq_to _ _ (p ∙ sym s)))

  shift_of : (z : ℤ) → block_of k z ≡ block_of k a → wrap_into k z ≡ (z -ℤ (a -ℤ wrap_into k a))
  shift_of z e = let p = wrap_shifts k z a e in omega (arith, ints)

  ends_wrap : one_block (block_of k a) (block_of k b) (block_of k c) (block_of k d) ≡ true → between_or_empty (wrap_into k low) (wrap_into k high) ≡ between_or_empty (least_of_four (wrap_into k a) (wrap_into k b) (wrap_into k c) (wrap_into k d)) (greatest_of_four (wrap_into k a) (wrap_into k b) (wrap_into k c) (wrap_into k d))
  ends_wrap h =
      let p = and_parts _ _ h in
      let q = and_parts _ _ p.1 in
      let P : ℤ → Type 0 = λ z. block_of k z ≡ block_of k a in
      let e = sym (eq_from _ _ p.0) in
      let f = sym (eq_from _ _ q.0) in
      let g = sym (eq_from _ _ q.1) in
      let t = a -ℤ wrap_into k a in
      let l = shift_of low (least_of_four_is P a b c d refl e f g) in
      let u = shift_of high (greatest_of_four_is P a b c d refl e f g) in
      let wa = shift_of a refl in
      let wb = shift_of b e in
      let wc = shift_of c f in
      let wd = shift_of d g in
      let m = least_shifts (int_min a b) (int_min c d) _ _ t (least_shifts a b _ _ t wa wb) (least_shifts c d _ _ t wc wd) in
      let n = greatest_shifts (int_max a b) (int_max c d) _ _ t (greatest_shifts a b _ _ t wa wb) (greatest_shifts c d _ _ t wc wd) in
      ap₂ between_or_empty (l ∙ sym m) (u ∙ sym n)

same_choice : (p q : Bool) (x y w : Interval) → (p ≡ true → q ≡ true) → (q ≡ true → p ≡ true) → (q ≡ true → x ≡ y) → cond p x w ≡ cond q y w
same_choice true true x y w f g h = h refl
same_choice true false x y w f g h = let e = f refl in cc
same_choice false true x y w f g h = let e = g refl in cc
same_choice false false x y w f g h = refl

-- the hull of four numbers, converted, from the four one by one
pub hull_wraps : (k : IntType) (a b c d : ℤ) → cond (one_block (block_of k a) (block_of k b) (block_of k c) (block_of k d)) (between_or_empty (least_of_four (wrap_into k a) (wrap_into k b) (wrap_into k c) (wrap_into k d)) (greatest_of_four (wrap_into k a) (wrap_into k b) (wrap_into k c) (wrap_into k d))) (whole k) ≡ wrapped k (least_of_four a b c d) (greatest_of_four a b c d)
hull_wraps k a b c d = sym (same_choice _ _ _ _ (whole k) (all_from_ends k a b c d) (ends_from_all k a b c d) (ends_wrap k a b c d))
