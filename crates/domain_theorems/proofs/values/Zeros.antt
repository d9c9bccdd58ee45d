-- First zeros behind writes of characters and texts, and scans.
use Rattle.std.specs.Prelude.{◌≡◌, ℤ, pos, negsuc, ◌+ℤ◌, ◌-ℤ◌, ◌≤ℤ◌, Bool, true, false, cond, not, ◌&&◌, ◌||◌, int_le, int_lt, Some, None, refl}
use Rattle.std.specs.Int.{int_min}
use Rattle.std.specs.Ordering.{int_eq}
use Rattle.std.proofs.Common.{arith, sym, subst, ap}
use Rattle.std.proofs.lemmas.Int.{ints, clamps}
use Rattle.std.proofs.lemmas.Bool.{and_from, and_parts}
use Rattle.std.proofs.lemmas.Bool.Decides.{Decides-int_eq}
use lib.Signed.{≤ℤ_refl}
use Rattle.cc_base.specs.Lattices.{LatticeOf, OrderLaws}
use Rattle.cc_base.specs.NumberRanges.{Range}
use Rattle.cc_base.specs.IntegerDomains.{IntegersOf, BoundLaws, of_range}
use Rattle.cc_base.specs.IntegerLaws.{tri_leq}
use Rattle.cc_base.specs.Truths.{can_hold, can_fail}
use Rattle.cc_base.specs.declared.integer_operators.Tri.{Tri}
use Rattle.cc_base.specs.declared.integer_operators.Tri.TheVariants.{No, Yes, Both, Never}
use Rattle.value_domain.specs.Strings.FirstZeros.{the_end, zero_lattice}
use Rattle.value_domain.specs.Strings.ZeroTables.{must_be_zero, cannot_be_zero, is_start, is_before, ends_text, in_both, in_three, is_known_at, is_known, lengths, zero_written, other_written, put_at, text_at, scanned}
use Rattle.value_domain.specs.declared.strings.first_zeros.FirstZero.{FirstZero}
use Rattle.domain_theorems.specs.Values.ZeroLaws.{found_leq, IsCount}
use Rattle.domain_theorems.proofs.values.Flags.{Sets, or_sets, and_sets, not_sets, holds_sets, fails_sets}
use Rattle.domain_theorems.proofs.values.Ranges.{RangeBelow, difference_monotone, met_monotone, bounds_monotone, of_range_monotone}

-- ---- bounds from 0 to the end, in order

abbrev pub AreCounts : Range → Type 0
AreCounts None = Unit {0}
AreCounts (Some f) = (pos 0 ≤ℤ f.0) × (f.0 ≤ℤ f.1) × (f.1 ≤ℤ the_end)

pub is_end : (z : ℤ) → int_eq z the_end ≡ true → z ≡ the_end
is_end z e = (Decides-int_eq z the_end).0 e

-- ---- a zero was written

abbrev upper : Bool → Bool → ℤ → ℤ → ℤ
upper a e x y = cond (not a) (int_min x y) (cond e (pos 0) the_end)

upper_rises : (a c e t : Bool) (f o d g : ℤ) → Sets a c → Sets t e → (t ≡ true → o ≤ℤ pos 0) → f ≤ℤ d → o ≤ℤ g → f ≤ℤ the_end → upper a e f o ≤ℤ upper c t d g
upper_rises false false e t f o d g h k m x y z = omega (arith, ints, clamps)
upper_rises true false e t f o d g h k m x y z = absurd (let u : false ≡ true = h refl in cc)
upper_rises true true true true f o d g h k m x y z = omega (arith, ints)
upper_rises true true false true f o d g h k m x y z = absurd (let u : false ≡ true = k refl in cc)
upper_rises true true true false f o d g h k m x y z = omega (arith, ints)
upper_rises true true false false f o d g h k m x y z = omega (arith, ints)
upper_rises false true e true f o d g h k m x y z = let u = m refl in omega (arith, ints, clamps)
upper_rises false true e false f o d g h k m x y z = omega (arith, ints, clamps)

abbrev must_as : Bool → Bool → (ℤ × ℤ) → (ℤ × ℤ) → (ℤ × ℤ)
must_as a e f o = (int_min f.0 o.0, upper a e f.1 o.1)

must_parts : (f o : ℤ × ℤ) → must_be_zero f o ≡ must_as (int_eq f.1 the_end) (int_eq o.0 (pos 0) && int_eq o.1 (pos 0)) f o
must_parts f o = by_tests (int_eq f.1 the_end) (int_eq o.0 (pos 0) && int_eq o.1 (pos 0))
  where
    by_tests : (a e : Bool) → cond (not a) (int_min f.0 o.0, int_min f.1 o.1) (cond e (int_min f.0 o.0, pos 0) (int_min f.0 o.0, the_end)) ≡ must_as a e f o
    by_tests false e = refl
    by_tests true true = refl
    by_tests true false = refl

pub same_int : (a c : ℤ) → a ≤ℤ c → c ≤ℤ a → a ≡ c
same_int (pos a) (pos c) h k = ap pos (omega (arith, ints))
same_int (pos a) (negsuc c) h k = absurd (omega (arith, ints))
same_int (negsuc a) (pos c) h k = absurd (omega (arith, ints))
same_int (negsuc a) (negsuc c) h k = ap negsuc (omega (arith, ints))

same_is : (a c : ℤ) → a ≤ℤ c → c ≤ℤ a → int_eq a c ≡ true
same_is a c h k = (Decides-int_eq a c).1 (same_int a c h k)

pub start_of : (o : ℤ × ℤ) → is_start o ≡ true → (o.0 ≡ pos 0) × (o.1 ≡ pos 0)
start_of o e = let a = and_parts (int_eq o.0 (pos 0)) (int_eq o.1 (pos 0)) e in ((Decides-int_eq o.0 (pos 0)).0 a.0, (Decides-int_eq o.1 (pos 0)).0 a.1)

-- where larger offsets are 0 alone, smaller ones are
starts : (o p : ℤ × ℤ) → AreCounts (Some o) → o.1 ≤ℤ p.1 → Sets (is_start p) (is_start o)
starts o p c h e =
    let a = (start_of p e).1 in
    let c0 = c.0 in
    let c1 = c.1 in
    and_from (int_eq o.0 (pos 0)) (int_eq o.1 (pos 0)) (same_is o.0 (pos 0) (omega (arith, ints)) c0) (same_is o.1 (pos 0) (omega (arith, ints)) (omega (arith, ints)))

-- a table of two ranges that grows with them
abbrev Grows : ((ℤ × ℤ) → (ℤ × ℤ) → (ℤ × ℤ)) → Type 0
Grows g = (f o d p : ℤ × ℤ) → AreCounts (Some f) → AreCounts (Some o) → AreCounts (Some d) → AreCounts (Some p) → d.0 ≤ℤ f.0 → f.1 ≤ℤ d.1 → p.0 ≤ℤ o.0 → o.1 ≤ℤ p.1 → RangeBelow (Some (g f o)) (Some (g d p))

must_grows : Grows must_be_zero
must_grows f o d p a b c e h j k m =
    let a0 = a.0 in let a1 = a.1 in let a2 = a.2 in let b0 = b.0 in let b1 = b.1 in
    let up = upper_rises (int_eq f.1 the_end) (int_eq d.1 the_end) (is_start o) (is_start p) f.1 o.1 d.1 p.1
    (λ t. let u = is_end f.1 t in same_is d.1 the_end c.2 (omega (arith, ints)))
    (starts o p b m)
    (λ t. let u = (start_of p t).1 in omega (arith, ints))
    j m a.2 in
    subst (λ x. RangeBelow (Some x) (Some (must_be_zero d p))) (sym (must_parts f o)) (subst (λ x. RangeBelow (Some (must_as (int_eq f.1 the_end) (is_start o) f o)) (Some x)) (sym (must_parts d p)) (omega (arith, ints, clamps), up))

-- ---- no zero was written

cannot_grows : Grows cannot_be_zero
cannot_grows f o d p a b c e h j k m =
    let a0 = a.0 in let a1 = a.1 in let a2 = a.2 in let b0 = b.0 in let b1 = b.1 in
    let c0 = c.0 in let c1 = c.1 in let c2 = c.2 in let e0 = e.0 in let e1 = e.1 in
    (grind (arith, ints, clamps), grind (arith, ints, clamps))

both_monotone : (g : (ℤ × ℤ) → (ℤ × ℤ) → (ℤ × ℤ)) → Grows g → (x y u v : Range) → AreCounts x → AreCounts y → AreCounts u → AreCounts v → RangeBelow x u → RangeBelow y v → RangeBelow (in_both g x y) (in_both g u v)
both_monotone g h None y u v a b c d i j = tt
both_monotone g h (Some f) None u v a b c d i j = tt
both_monotone g h (Some f) (Some o) None v a b c d i j = absurd i
both_monotone g h (Some f) (Some o) (Some p) None a b c d i j = absurd j
both_monotone g h (Some f) (Some o) (Some p) (Some q) a b c d i j = h f o p q a b c d i.0 i.1 j.0 j.1

-- ---- a text was written

abbrev is_one_before : (ℤ × ℤ) → (ℤ × ℤ) → Bool
is_one_before f o = int_eq o.0 o.1 && is_before f o

-- its three outcomes
abbrev ended : Bool → Bool → (ℤ × ℤ) → (ℤ × ℤ) → (ℤ × ℤ) → (ℤ × ℤ)
ended s e f o t = cond s (int_min t.0 the_end, int_min t.1 the_end) (cond e (int_min (o.0 +ℤ t.0) the_end, int_min (o.1 +ℤ t.1) the_end) (int_min f.0 o.0, the_end))

ended_monotone : (s e a c : Bool) (f o t d p u : ℤ × ℤ) → AreCounts (Some f) → AreCounts (Some o) → AreCounts (Some t) → AreCounts (Some d) → AreCounts (Some p) → AreCounts (Some u)
    → d.0 ≤ℤ f.0 → f.1 ≤ℤ d.1 → p.0 ≤ℤ o.0 → o.1 ≤ℤ p.1 → u.0 ≤ℤ t.0 → t.1 ≤ℤ u.1
    → Sets a s → (s ≡ true → o.1 ≤ℤ pos 0) → Sets c e → (c ≡ true → p.1 ≤ℤ p.0) → (c ≡ true → a ≡ false → (p.1 ≤ℤ pos 0) → ⊥)
    → RangeBelow (Some (ended s e f o t)) (Some (ended a c d p u))
ended_monotone true e true c f o t d p u f1 o1 t1 d1 p1 u1 g h i j k m n q r v w = (omega (arith, ints, clamps), omega (arith, ints, clamps))
ended_monotone false e true c f o t d p u f1 o1 t1 d1 p1 u1 g h i j k m n q r v w = absurd (let x : false ≡ true = n refl in cc)
ended_monotone true e false true f o t d p u f1 o1 t1 d1 p1 u1 g h i j k m n q r v w = let x = q refl in let y = v refl in absurd (w refl refl (omega (arith, ints)))
ended_monotone true e false false f o t d p u f1 o1 t1 d1 p1 u1 g h i j k m n q r v w = let x = q refl in (omega (arith, ints, clamps), omega (arith, ints, clamps))
ended_monotone false true false true f o t d p u f1 o1 t1 d1 p1 u1 g h i j k m n q r v w = (omega (arith, ints, clamps), omega (arith, ints, clamps))
ended_monotone false false false true f o t d p u f1 o1 t1 d1 p1 u1 g h i j k m n q r v w = absurd (let x : false ≡ true = r refl in cc)
ended_monotone false true false false f o t d p u f1 o1 t1 d1 p1 u1 g h i j k m n q r v w = (omega (arith, ints, clamps), omega (arith, ints, clamps))
ended_monotone false false false false f o t d p u f1 o1 t1 d1 p1 u1 g h i j k m n q r v w = (omega (arith, ints, clamps), omega (arith, ints, clamps))

-- the first zero lies behind smaller offsets where it lies behind larger ones
before_more : (f o d p : ℤ × ℤ) → d.0 ≤ℤ f.0 → f.1 ≤ℤ d.1 → o.1 ≤ℤ p.1 → d.1 ≤ℤ the_end → Sets (is_before d p) (is_before f o)
before_more f o d p h j m t = and_sets (int_le p.1 d.0) (not (int_eq d.1 the_end)) (int_le o.1 f.0) (not (int_eq f.1 the_end))
    (λ e. grind (arith, ints))
    (not_sets (int_eq d.1 the_end) (int_eq f.1 the_end) (λ z. let y = is_end f.1 z in same_is d.1 the_end t (omega (arith, ints))))

text_grows : (f o t d p u : ℤ × ℤ) → AreCounts (Some f) → AreCounts (Some o) → AreCounts (Some t) → AreCounts (Some d) → AreCounts (Some p) → AreCounts (Some u)
    → d.0 ≤ℤ f.0 → f.1 ≤ℤ d.1 → p.0 ≤ℤ o.0 → o.1 ≤ℤ p.1 → u.0 ≤ℤ t.0 → t.1 ≤ℤ u.1 → RangeBelow (Some (ends_text f o t)) (Some (ends_text d p u))
text_grows f o t d p u f1 o1 t1 d1 p1 u1 g h i j k m = ended_monotone (is_start o) (is_one_before f o) (is_start p) (is_one_before d p) f o t d p u f1 o1 t1 d1 p1 u1 g h i j k m
    (starts o p o1 j)
    (λ e. let a = (start_of o e).1 in omega (arith, ints))
    (λ e. let a = and_parts (int_eq p.0 p.1) (is_before d p) e in
    let x : p.0 ≡ p.1 = (Decides-int_eq p.0 p.1).0 a.0 in
    let o2 = o1.1 in
    and_from (int_eq o.0 o.1) (is_before f o) (same_is o.0 o.1 o2 (omega (arith, ints))) (before_more f o d p g h j d1.2 a.1))
    (λ e. let a = and_parts (int_eq p.0 p.1) (is_before d p) e in let x : p.0 ≡ p.1 = (Decides-int_eq p.0 p.1).0 a.0 in omega (arith, ints))
    (λ e z y. let p0 = p1.0 in let p2 = p1.1 in
    let w : is_start p ≡ true = and_from (int_eq p.0 (pos 0)) (int_eq p.1 (pos 0)) (same_is p.0 (pos 0) (omega (arith, ints)) p0) (same_is p.1 (pos 0) y (omega (arith, ints))) in cc)

three_monotone : (x y z u v w : Range) → AreCounts x → AreCounts y → AreCounts z → AreCounts u → AreCounts v → AreCounts w → RangeBelow x u → RangeBelow y v → RangeBelow z w → RangeBelow (in_three ends_text x y z) (in_three ends_text u v w)
three_monotone None y z u v w a b c d e f i j k = tt
three_monotone (Some p) None z u v w a b c d e f i j k = tt
three_monotone (Some p) (Some q) None u v w a b c d e f i j k = tt
three_monotone (Some p) (Some q) (Some r) None v w a b c d e f i j k = absurd i
three_monotone (Some p) (Some q) (Some r) (Some s) None w a b c d e f i j k = absurd j
three_monotone (Some p) (Some q) (Some r) (Some s) (Some t) None a b c d e f i j k = absurd k
three_monotone (Some p) (Some q) (Some r) (Some s) (Some t) (Some u) a b c d e f i j k = text_grows p q r s t u a b c d e f i.0 i.1 j.0 j.1 k.0 k.1

-- ---- a scan

known_at : (part : Bool) (f o r d p s : ℤ × ℤ) → d.0 ≤ℤ f.0 → f.1 ≤ℤ d.1 → p.0 ≤ℤ o.0 → o.1 ≤ℤ p.1 → s.0 ≤ℤ r.0 → d.1 ≤ℤ the_end → Sets (is_known_at part d p s) (is_known_at part f o r)
known_at part f o r d p s g h i j k t = and_sets (is_before d p) (not part || int_lt (d.1 -ℤ p.0) s.0) (is_before f o) (not part || int_lt (f.1 -ℤ o.0) r.0)
    (before_more f o d p g h j t)
    (or_sets (not part) (int_lt (d.1 -ℤ p.0) s.0) (not part) (int_lt (f.1 -ℤ o.0) r.0) (λ e. e) (λ e. grind (arith, ints)))

known_less : (part : Bool) (x y z u v w : Range) → AreCounts u → RangeBelow x u → RangeBelow y v → RangeBelow z w → Sets (is_known part u v w) (is_known part x y z)
known_less part None y z u v w c i j k e = refl
known_less part (Some f) None z u v w c i j k e = refl
known_less part (Some f) (Some o) None u v w c i j k e = refl
known_less part (Some f) (Some o) (Some r) None v w c i j k e = absurd i
known_less part (Some f) (Some o) (Some r) (Some d) None w c i j k e = absurd j
known_less part (Some f) (Some o) (Some r) (Some d) (Some p) None c i j k e = absurd k
known_less part (Some f) (Some o) (Some r) (Some d) (Some p) (Some s) c i j k e = known_at part f o r d p s i.0 i.1 j.0 j.1 k.0 c.2 e

lengths_monotone : (x y z u v w : Range) → RangeBelow x u → RangeBelow y v → RangeBelow z w → RangeBelow (lengths x y z) (lengths u v w)
lengths_monotone x y None u v w i j k = tt
lengths_monotone x y (Some r) u v None i j k = absurd k
lengths_monotone x y (Some r) u v (Some s) i j k = let k1 = k.1 in met_monotone _ _ (pos 0) (r.1 -ℤ pos 1) (pos 0) (s.1 -ℤ pos 1) (difference_monotone x y u v i j) (≤ℤ_refl (pos 0)) (omega (arith, ints))

-- ---- over a domain

module _ {I : Type 0} {l : LatticeOf I} {n : IntegersOf I} {stands : I → ℤ → Type 0} (o : OrderLaws l) (b : BoundLaws l n stands) where
  counts_at : (x : I) (r : Range) → n.bounds x ≡ r → RangeBelow r (Some (pos 0, the_end)) → AreCounts r
  counts_at x None e h = tt
  counts_at x (Some p) e h = (h.0, b.proper x p.0 p.1 e, h.1)

  pub counts_of : (x : I) → IsCount l n x → AreCounts (n.bounds x)
  counts_of x h = counts_at x (n.bounds x) refl (subst (λ r. RangeBelow (n.bounds x) r) (b.between_bounds (pos 0) the_end (omega (arith, ints))) (bounds_monotone b x (n.between (pos 0) the_end) h))

  is_count : (x u : I) → l.leq x u ≡ true → IsCount l n u → IsCount l n x
  is_count x u h k = o.transitive x u (n.between (pos 0) the_end) h k

  table_monotone : (g : (ℤ × ℤ) → (ℤ × ℤ) → (ℤ × ℤ)) → Grows g → (x y u v : I) → l.leq x u ≡ true → l.leq y v ≡ true → IsCount l n u → IsCount l n v
      → l.leq (of_range l n (in_both g (n.bounds x) (n.bounds y))) (of_range l n (in_both g (n.bounds u) (n.bounds v))) ≡ true
  table_monotone g h x y u v i j k m = of_range_monotone o b _ _ (both_monotone g h (n.bounds x) (n.bounds y) (n.bounds u) (n.bounds v)
      (counts_of x (is_count x u i k)) (counts_of y (is_count y v j m)) (counts_of u k) (counts_of v m) (bounds_monotone b x u i) (bounds_monotone b y v j))

  module _ (f d : FirstZero I) (at by : I) (i : l.leq f.at d.at ≡ true) (j : l.leq at by ≡ true) (k : IsCount l n d.at) (m : IsCount l n by) where
    zero_monotone : l.leq (zero_written l n f at).at (zero_written l n d by).at ≡ true
    zero_monotone = table_monotone must_be_zero must_grows f.at at d.at by i j k m

    other_monotone : l.leq (other_written l n f at).at (other_written l n d by).at ≡ true
    other_monotone = table_monotone cannot_be_zero cannot_grows f.at at d.at by i j k m

    to_both_left : l.leq (zero_written l n f at).at (put_at l n d by Both).at ≡ true
    to_both_left = o.transitive (zero_written l n f at).at (zero_written l n d by).at (put_at l n d by Both).at zero_monotone (o.join_left (zero_written l n d by).at (other_written l n d by).at)

    to_both_right : l.leq (other_written l n f at).at (put_at l n d by Both).at ≡ true
    to_both_right = o.transitive (other_written l n f at).at (other_written l n d by).at (put_at l n d by Both).at other_monotone (o.join_right (zero_written l n d by).at (other_written l n d by).at)

    put_by : (s t : Tri) → Sets (can_hold s) (can_hold t) → Sets (can_fail s) (can_fail t) → l.leq (put_at l n f at s).at (put_at l n d by t).at ≡ true
    put_by Never t h g = o.least_below (put_at l n d by t).at
    put_by Yes Yes h g = zero_monotone
    put_by Yes No h g = absurd (let e : false ≡ true = h refl in cc)
    put_by Yes Never h g = absurd (let e : false ≡ true = h refl in cc)
    put_by Yes Both h g = to_both_left
    put_by No No h g = other_monotone
    put_by No Yes h g = absurd (let e : false ≡ true = g refl in cc)
    put_by No Never h g = absurd (let e : false ≡ true = g refl in cc)
    put_by No Both h g = to_both_right
    put_by Both No h g = absurd (let e : false ≡ true = h refl in cc)
    put_by Both Yes h g = absurd (let e : false ≡ true = g refl in cc)
    put_by Both Never h g = absurd (let e : false ≡ true = g refl in cc)
    put_by Both Both h g = o.join_least (zero_written l n f at).at (other_written l n f at).at (put_at l n d by Both).at to_both_left to_both_right

  pub put_monotone : (f g : FirstZero I) (at by : I) (s t : Tri) → (zero_lattice l).leq f g ≡ true → l.leq at by ≡ true → tri_leq s t ≡ true → IsCount l n g.at → IsCount l n by → (zero_lattice l).leq (put_at l n f at s) (put_at l n g by t) ≡ true
  put_monotone f g at by s t h j e k m = put_by f g at by h j k m s t (holds_sets s t e) (fails_sets s t e)

  pub text_monotone : (f g : FirstZero I) (at by len more : I) → (zero_lattice l).leq f g ≡ true → l.leq at by ≡ true → l.leq len more ≡ true → IsCount l n g.at → IsCount l n by → IsCount l n more → (zero_lattice l).leq (text_at l n f at len) (text_at l n g by more) ≡ true
  text_monotone f g at by len more h j i k m q = of_range_monotone o b _ _ (three_monotone (n.bounds f.at) (n.bounds at) (n.bounds len) (n.bounds g.at) (n.bounds by) (n.bounds more)
      (counts_of f.at (is_count f.at g.at h k)) (counts_of at (is_count at by j m)) (counts_of len (is_count len more i q)) (counts_of g.at k) (counts_of by m) (counts_of more q)
      (bounds_monotone b f.at g.at h) (bounds_monotone b at by j) (bounds_monotone b len more i))

  found_at : (s t : Bool) (x y : I) → Sets t s → l.leq x y ≡ true → found_leq l (cond s (Some x) None) (cond t (Some y) None)
  found_at s false x y h k = tt
  found_at true true x y h k = k
  found_at false true x y h k = absurd (let e : false ≡ true = h refl in cc)

  pub scan_monotone : (f g : FirstZero I) (at by room more : I) (part : Bool) → (zero_lattice l).leq f g ≡ true → l.leq at by ≡ true → l.leq room more ≡ true → IsCount l n g.at → found_leq l (scanned l n f at room part) (scanned l n g by more part)
  scan_monotone f g at by room more part h j i k = found_at (is_known part (n.bounds f.at) (n.bounds at) (n.bounds room)) (is_known part (n.bounds g.at) (n.bounds by) (n.bounds more))
      (of_range l n (lengths (n.bounds f.at) (n.bounds at) (n.bounds room))) (of_range l n (lengths (n.bounds g.at) (n.bounds by) (n.bounds more)))
      (known_less part (n.bounds f.at) (n.bounds at) (n.bounds room) (n.bounds g.at) (n.bounds by) (n.bounds more) (counts_of g.at k) (bounds_monotone b f.at g.at h) (bounds_monotone b at by j) (bounds_monotone b room more i))
      (of_range_monotone o b _ _ (lengths_monotone (n.bounds f.at) (n.bounds at) (n.bounds room) (n.bounds g.at) (n.bounds by) (n.bounds more) (bounds_monotone b f.at g.at h) (bounds_monotone b at by j) (bounds_monotone b room more i)))
