-- Remainders.
use Rattle.std.specs.Prelude.{◌≡◌, zero, suc, ◌<◌, ℤ, pos, negsuc, neg_ℤ, ◌-ℤ◌, ◌≤ℤ◌, ◌<ℤ◌, Bool, true, false, cond, ◌&&◌, int_lt, int_rem, Some, None, refl}
use Rattle.std.specs.Int.{int_min, int_max}
use Rattle.std.specs.Ordering.{int_eq}
use Rattle.std.proofs.Common.{arith, ap, sym, subst, subst₂, ◌∙◌, inl, inr, mod-eq_of_lt}
use Rattle.std.proofs.lemmas.Int.{ints, clamps, by_lt_z}
use Rattle.std.proofs.lemmas.Bool.{cases_Bool, cond_both, and_parts}
use Rattle.std.proofs.lemmas.Bool.Decides.{Decides-int_eq}
use Rattle.std.proofs.lemmas.Nat.{div-add-mod', mod_below}
use Rattle.cc_base.specs.IntegerTypes.{is_size, in_type}
use Rattle.cc_base.specs.MachineArithmetic.{binary_result, is_quotient_overflow}
use Rattle.cc_base.specs.declared.int_types.IntType.{IntType}
use Rattle.cc_base.specs.declared.integer_operators.IntOp.TheVariants.{Rem}
use Rattle.interval_domain.specs.declared.intervals.spans.Span.{Span}
use Rattle.interval_domain.specs.declared.intervals.intervals.Interval.{Interval}
use Rattle.interval_domain.specs.declared.intervals.intervals.Interval.TheVariants.{Bottom, Of}
use Rattle.interval_domain.specs.Intervals.Spans.{Stands}
use Rattle.interval_domain.specs.Intervals.IntervalOrder.{interval_leq, leq_reflexive}
use Rattle.interval_domain.specs.Intervals.Arithmetic.{remainders, remainders_by, remainder, without_zero, towards_zero, clamped, is_single, least_size, greatest_size, HasApartEnds, ApartFromZero}
use Rattle.interval_domain.specs.Intervals.Best.{stands_between}
use Rattle.interval_domain.proofs.intervals.Made.{are_apart}
use Rattle.interval_domain.proofs.intervals.Ranges.{range_facts}
use Rattle.domain_theorems.specs.Intervals.Kit.{lt_true, lt_false, some_same, Within, within, between_monotone, clamped_monotone, clamped_stands, clamped_single_below, same_single, of_type, in_type_between}

eq_true : (a b : ℤ) → int_eq a b ≡ true → a ≡ b
eq_true a b h = (Decides-int_eq a b).0 h

eq_false : (a b : ℤ) → int_eq a b ≡ false → a ≡ b → ⊥
eq_false a b h e = let t = (Decides-int_eq a b).1 e in let u : true ≡ false = sym t ∙ h in cc

-- ---- one remainder

-- how far a number is from zero
abbrev size : ℤ → ℤ
size a = int_max (neg_ℤ a) a

-- it lies between the dividend and zero, and is nearer to zero than the divisor
record IsRemainder (a b r : ℤ) : Type 0 where
  lower : int_min a (pos 0) ≤ℤ r
  upper : r ≤ℤ int_max a (pos 0)
  above : neg_ℤ (size b) <ℤ r
  below : r <ℤ size b

is_remainder : (a b : ℤ) → (b ≡ pos 0 → ⊥) → IsRemainder a b (int_rem a b)
is_remainder a (pos zero) n = absurd (n refl)
is_remainder (pos a) (pos (suc m)) n =
    let e = div-add-mod' a (suc m) in
    let r = mod_below a (suc m) (omega arith) in
    record { lower = omega (arith, ints, clamps); upper = omega (arith, ints, clamps); above = omega (arith, ints, clamps); below = omega (arith, ints, clamps) }
is_remainder (pos a) (negsuc m) n =
    let e = div-add-mod' a (suc m) in
    let r = mod_below a (suc m) (omega arith) in
    record { lower = omega (arith, ints, clamps); upper = omega (arith, ints, clamps); above = omega (arith, ints, clamps); below = omega (arith, ints, clamps) }
is_remainder (negsuc a) (pos (suc m)) n =
    let e = div-add-mod' (suc a) (suc m) in
    let r = mod_below (suc a) (suc m) (omega arith) in
    record { lower = omega (arith, ints, clamps); upper = omega (arith, ints, clamps); above = omega (arith, ints, clamps); below = omega (arith, ints, clamps) }
is_remainder (negsuc a) (negsuc m) n =
    let e = div-add-mod' (suc a) (suc m) in
    let r = mod_below (suc a) (suc m) (omega arith) in
    record { lower = omega (arith, ints, clamps); upper = omega (arith, ints, clamps); above = omega (arith, ints, clamps); below = omega (arith, ints, clamps) }

-- a dividend that is nearer to zero than the divisor is left
left_over : (a b : ℤ) → size a <ℤ size b → int_rem a b ≡ a
left_over (pos a) (pos b) h = let r : a < b = omega (arith, ints, clamps) in ap pos (mod-eq_of_lt r)
left_over (pos a) (negsuc b) h = let r : a < suc b = omega (arith, ints, clamps) in ap pos (mod-eq_of_lt r)
left_over (negsuc a) (pos b) h = let r : suc a < b = omega (arith, ints, clamps) in ap (λ n. neg_ℤ (pos n)) (mod-eq_of_lt r)
left_over (negsuc a) (negsuc b) h = let r : suc a < suc b = omega (arith, ints, clamps) in ap (λ n. neg_ℤ (pos n)) (mod-eq_of_lt r)

-- ---- sizes

least_size_is : (P : ℤ → Type 0) (t : Span) → (pos 0 <ℤ t.lo → P t.lo) → (t.hi <ℤ pos 0 → P (neg_ℤ t.hi)) → (t.lo ≤ℤ pos 0 → pos 0 ≤ℤ t.hi → P (pos 1)) → P (least_size t)
least_size_is P t f g h = cond_both (int_lt (pos 0) t.lo) t.lo _ P (λ e. f (lt_true _ _ e))
    (λ e. cond_both (int_lt t.hi (pos 0)) (neg_ℤ t.hi) (pos 1) P (λ d. g (lt_true _ _ d)) (λ d. h (lt_false _ _ e) (lt_false _ _ d)))

least_size_falls : (t v : Span) → Within t v → least_size v ≤ℤ least_size t
least_size_falls t v w =
    let w' = w.lower in
    let w'' = w.upper in
    let o = t.ordered in
    least_size_is (λ z. z ≤ℤ least_size t) v
    (λ (p : pos 0 <ℤ v.lo). least_size_is (λ z. v.lo ≤ℤ z) t (λ q. w') (λ (q : t.hi <ℤ pos 0). absurd (omega (arith, ints))) (λ (q : t.lo ≤ℤ pos 0) r. absurd (omega (arith, ints))))
    (λ (p : v.hi <ℤ pos 0). least_size_is (λ z. neg_ℤ v.hi ≤ℤ z) t (λ (q : pos 0 <ℤ t.lo). absurd (omega (arith, ints))) (λ q. omega (arith, ints)) (λ q (r : pos 0 ≤ℤ t.hi). absurd (omega (arith, ints))))
    (λ p q. least_size_is (λ z. pos 1 ≤ℤ z) t (λ (r : pos 0 <ℤ t.lo). omega (arith, ints)) (λ (r : t.hi <ℤ pos 0). omega (arith, ints)) (λ _ _. omega (arith, ints)))

size_positive : (b : ℤ) → (b ≡ pos 0 → ⊥) → pos 1 ≤ℤ size b
size_positive (pos zero) n = absurd (n refl)
size_positive (pos (suc m)) n = omega (arith, ints, clamps)
size_positive (negsuc m) n = omega (arith, ints, clamps)

least_size_below : (t : Span) (b : ℤ) → (b ≡ pos 0 → ⊥) → Stands (Of t) b → least_size t ≤ℤ size b
least_size_below t b n h = least_size_is (λ z. z ≤ℤ size b) t (λ p. omega (arith, ints, clamps)) (λ p. omega (arith, ints, clamps)) (λ p q. size_positive b n)

greatest_size_above : (t : Span) (b : ℤ) → Stands (Of t) b → size b ≤ℤ greatest_size t
greatest_size_above t b h = omega (arith, ints, clamps)

greatest_size_rises : (t v : Span) → Within t v → greatest_size t ≤ℤ greatest_size v
greatest_size_rises t v w = let p = w.lower in let q = w.upper in omega (arith, ints, clamps)

sizes_ordered : (t : Span) → HasApartEnds (Of t) → least_size t ≤ℤ greatest_size t
sizes_ordered t a =
    let o = t.ordered in
    least_size_is (λ z. z ≤ℤ greatest_size t) t (λ p. omega (arith, ints, clamps)) (λ p. omega (arith, ints, clamps))
    (λ p q. elim a.0 [ inl h ↦ omega (arith, ints, clamps) | inr h ↦ absurd (omega (arith, ints)) ])

-- ---- operands that are not both single

abbrev spread : IntType → Span → Span → Interval
spread k s t = cond (int_lt (greatest_size s) (least_size t)) (clamped k s.lo s.hi) (towards_zero k s (greatest_size t -ℤ pos 1))

towards_stands : (k : IntType) (s t : Span) (a b r : ℤ) → IsRemainder a b r → Stands (Of s) a → Stands (Of t) b → in_type k r ≡ true → Stands (towards_zero k s (greatest_size t -ℤ pos 1)) r
towards_stands k s t a b r i p q h =
    let c = i.lower in
    let d = i.upper in
    let e = i.above in
    let f = i.below in
    let g = greatest_size_above t b q in
    clamped_stands k _ _ r (omega (arith, ints, clamps)) (omega (arith, ints, clamps)) h

spread_stands : (k : IntType) (s t : Span) (a b : ℤ) → (b ≡ pos 0 → ⊥) → Stands (Of s) a → Stands (Of t) b → in_type k (int_rem a b) ≡ true → Stands (spread k s t) (int_rem a b)
spread_stands k s t a b n p q h = cond_both (int_lt (greatest_size s) (least_size t)) _ _ (λ x. Stands x (int_rem a b))
    (λ e.
    let l = lt_true (greatest_size s) (least_size t) e in
    let c = greatest_size_above s a p in
    let d = least_size_below t b n q in
    let f : int_rem a b ≡ a = left_over a b (omega (arith, ints)) in
    subst (Stands (clamped k s.lo s.hi)) (sym f) (clamped_stands k s.lo s.hi a p.0 p.1 (subst (λ z. in_type k z ≡ true) f h)))
    (λ e. towards_stands k s t a b (int_rem a b) (is_remainder a b n) p q h)

towards_monotone : (k : IntType) (s u : Span) (m n : ℤ) → Within s u → m ≤ℤ n → interval_leq (towards_zero k s m) (towards_zero k u n) ≡ true
towards_monotone k s u m n w h = let p = w.lower in let q = w.upper in clamped_monotone k _ _ _ _ (omega (arith, ints, clamps)) (omega (arith, ints, clamps))

kept_towards : (k : IntType) (s u : Span) (m : ℤ) → Within s u → greatest_size s ≤ℤ m → interval_leq (clamped k s.lo s.hi) (towards_zero k u m) ≡ true
kept_towards k s u m w h = let p = w.lower in let q = w.upper in let o = s.ordered in clamped_monotone k _ _ _ _ (omega (arith, ints, clamps)) (omega (arith, ints, clamps))

module _ (k : IntType) (s t u v : Span) (a : HasApartEnds (Of t)) (w : Within s u) (x : Within t v) where
  to_small : int_lt (greatest_size u) (least_size v) ≡ true → interval_leq (spread k s t) (clamped k u.lo u.hi) ≡ true
  to_small e =
      let l = lt_true (greatest_size u) (least_size v) e in
      let c = greatest_size_rises s u w in
      let d = least_size_falls t v x in
      cond_both (int_lt (greatest_size s) (least_size t)) _ _ (λ z. interval_leq z (clamped k u.lo u.hi) ≡ true)
      (λ f. clamped_monotone k _ _ _ _ w.lower w.upper)
      (λ f. let m = lt_false (greatest_size s) (least_size t) f in absurd (omega (arith, ints)))

  to_towards : interval_leq (spread k s t) (towards_zero k u (greatest_size v -ℤ pos 1)) ≡ true
  to_towards =
      let c = greatest_size_rises t v x in
      cond_both (int_lt (greatest_size s) (least_size t)) _ _ (λ z. interval_leq z (towards_zero k u (greatest_size v -ℤ pos 1)) ≡ true)
      (λ f. let l = lt_true (greatest_size s) (least_size t) f in let d = sizes_ordered t a in kept_towards k s u _ w (omega (arith, ints)))
      (λ f. towards_monotone k s u _ _ w (omega (arith, ints)))

  spread_monotone : interval_leq (spread k s t) (spread k u v) ≡ true
  spread_monotone = cond_both (int_lt (greatest_size u) (least_size v)) _ _ (λ z. interval_leq (spread k s t) z ≡ true) to_small (λ e. to_towards)

-- ---- single operands

remainder_below : (k : IntType) (a b : ℤ) (y : Interval) → (in_type k (int_rem a b) ≡ true → Stands y (int_rem a b)) → interval_leq (remainder k a b) y ≡ true
remainder_below k a b y f = cond_both (is_quotient_overflow k a b) Bottom (clamped k (int_rem a b) (int_rem a b)) (λ x. interval_leq x y ≡ true) (λ e. refl) (λ e. clamped_single_below k (int_rem a b) y f)

remainder_stands : (k : IntType) (a b : ℤ) → is_quotient_overflow k a b ≡ false → in_type k (int_rem a b) ≡ true → Stands (remainder k a b) (int_rem a b)
remainder_stands k a b e h = let t = of_type k _ h in cond_both (is_quotient_overflow k a b) Bottom (clamped k (int_rem a b) (int_rem a b)) (λ x. Stands x (int_rem a b))
    (λ d. let u : true ≡ false = sym d ∙ e in cc)
    (λ d. stands_between _ _ _ (omega (arith, ints, clamps)) (omega (arith, ints, clamps)))

-- ---- a divisor without a zero at its ends

not_zero : (n : ℤ) → ApartFromZero n → n ≡ pos 0 → ⊥
not_zero n (inl h) e = omega (arith, ints)
not_zero n (inr h) e = omega (arith, ints)

module _ (k : IntType) (s t u v : Span) (a : HasApartEnds (Of t)) (w : Within s u) (x : Within t v) where
  to_spread : interval_leq (remainders_by k s (Of t)) (spread k u v) ≡ true
  to_spread = cond_both (is_single s && is_single t) _ _ (λ z. interval_leq z (spread k u v) ≡ true)
      (λ e. remainder_below k s.lo t.lo (spread k u v) (λ h. spread_stands k u v s.lo t.lo (not_zero t.lo a.0)
      (w.lower, (let o = s.ordered in let p = w.upper in omega (arith, ints))) (x.lower, (let o = t.ordered in let p = x.upper in omega (arith, ints))) h))
      (λ e. spread_monotone k s t u v a w x)

  to_single : (is_single u && is_single v) ≡ true → interval_leq (remainders_by k s (Of t)) (remainders_by k u (Of v)) ≡ true
  to_single h =
      let p = and_parts _ _ h in
      let e = same_single s u w (eq_true _ _ p.0) in
      let f = same_single t v x (eq_true _ _ p.1) in
      subst₂ (λ c d. interval_leq (remainders_by k s (Of t)) (remainders_by k c (Of d)) ≡ true) e f (leq_reflexive (remainders_by k s (Of t)))

  spans_monotone : interval_leq (remainders_by k s (Of t)) (remainders_by k u (Of v)) ≡ true
  spans_monotone = elim (cases_Bool (is_single u && is_single v)) [
    | inl h ↦ to_single h
    | inr h ↦ subst (λ b. interval_leq (remainders_by k s (Of t)) (cond b (remainder k u.lo v.lo) (spread k u v)) ≡ true) (sym h) to_spread
  ]

by_monotone : (k : IntType) (s u : Span) (x y : Interval) → HasApartEnds x → Within s u → interval_leq x y ≡ true → interval_leq (remainders_by k s x) (remainders_by k u y) ≡ true
by_monotone k s u Bottom y a w h = refl
by_monotone k s u (Of t) Bottom a w h = cc
by_monotone k s u (Of t) (Of v) a w h = spans_monotone k s t u v a w (within t v h)

-- ---- zero is left out

raised : (a b : ℤ) → a ≤ℤ b → (b ≡ pos 0 → ⊥) → cond (int_eq a (pos 0)) (pos 1) a ≤ℤ b
raised a b h n = cond_both (int_eq a (pos 0)) (pos 1) a (λ z. z ≤ℤ b)
    (λ e. let d = eq_true a (pos 0) e in by_lt_z (pos 0) b (λ (l : pos 0 <ℤ b). omega (arith, ints)) (λ (l : b ≤ℤ pos 0). absurd (n (omega (arith, ints)))))
    (λ e. h)

lowered : (a b : ℤ) → b ≤ℤ a → (b ≡ pos 0 → ⊥) → b ≤ℤ cond (int_eq a (pos 0)) (negsuc 0) a
lowered a b h n = cond_both (int_eq a (pos 0)) (negsuc 0) a (λ z. b ≤ℤ z)
    (λ e. let d = eq_true a (pos 0) e in by_lt_z b (pos 0) (λ (l : b <ℤ pos 0). omega (arith, ints)) (λ (l : pos 0 ≤ℤ b). absurd (n (omega (arith, ints)))))
    (λ e. h)

raised_rises : (a b : ℤ) → a ≤ℤ b → cond (int_eq a (pos 0)) (pos 1) a ≤ℤ cond (int_eq b (pos 0)) (pos 1) b
raised_rises a b h = cond_both (int_eq b (pos 0)) (pos 1) b (λ z. cond (int_eq a (pos 0)) (pos 1) a ≤ℤ z)
    (λ e. let d = eq_true b (pos 0) e in raised a (pos 1) (omega (arith, ints)) (λ (f : pos 1 ≡ pos 0). omega (arith, ints)))
    (λ e. raised a b h (eq_false b (pos 0) e))

lowered_rises : (a b : ℤ) → b ≤ℤ a → cond (int_eq b (pos 0)) (negsuc 0) b ≤ℤ cond (int_eq a (pos 0)) (negsuc 0) a
lowered_rises a b h = cond_both (int_eq b (pos 0)) (negsuc 0) b (λ z. z ≤ℤ cond (int_eq a (pos 0)) (negsuc 0) a)
    (λ e. let d = eq_true b (pos 0) e in lowered a (negsuc 0) (omega (arith, ints)) (λ (f : negsuc 0 ≡ pos 0). omega (arith, ints)))
    (λ e. lowered a b h (eq_false b (pos 0) e))

apart_unless : (n : ℤ) → (n ≡ pos 0 → ⊥) → ApartFromZero n
apart_unless n f = by_lt_z n (pos 0) (λ l. inl l) (λ (l : pos 0 ≤ℤ n). by_lt_z (pos 0) n (λ m. inr m) (λ (m : n ≤ℤ pos 0). absurd (f (omega (arith, ints)))))

without_apart : (t : Span) → HasApartEnds (without_zero t)
without_apart t = are_apart (without_zero t) _ _ refl
    (cond_both (int_eq t.lo (pos 0)) (pos 1) t.lo ApartFromZero (λ _. inr (omega (arith, ints))) (λ e. apart_unless t.lo (eq_false _ _ e)))
    (cond_both (int_eq t.hi (pos 0)) (negsuc 0) t.hi ApartFromZero (λ _. inl (omega (arith, ints))) (λ e. apart_unless t.hi (eq_false _ _ e)))

pub remainders_monotone : (k : IntType) (s t u v : Span) → Within s u → Within t v → interval_leq (remainders k s t) (remainders k u v) ≡ true
remainders_monotone k s t u v w x = by_monotone k s u (without_zero t) (without_zero v) (without_apart t) w (between_monotone _ _ _ _ (raised_rises v.lo t.lo x.lower) (lowered_rises v.hi t.hi x.upper))

-- ---- a remainder that comes

record Remains (k : IntType) (a b c : ℤ) : Type 0 where
  divides : b ≡ pos 0 → ⊥
  fits : is_quotient_overflow k a b ≡ false
  is : int_rem a b ≡ c

remains_at : (k : IntType) (a b c : ℤ) (none over : Bool) → int_eq b (pos 0) ≡ none → is_quotient_overflow k a b ≡ over → cond none None (cond over None (Some (int_rem a b))) ≡ Some c → Remains k a b c
remains_at k a b c true over z o e = cc
remains_at k a b c false true z o e = cc
remains_at k a b c false false z o e = record { divides = eq_false b (pos 0) z; fits = o; is = some_same _ _ e }

by_stands : (k : IntType) (s : Span) (y : Interval) (a b : ℤ) → (b ≡ pos 0 → ⊥) → is_quotient_overflow k a b ≡ false → Stands (Of s) a → Stands y b → in_type k (int_rem a b) ≡ true → Stands (remainders_by k s y) (int_rem a b)
by_stands k s Bottom a b n o p q h = absurd q
by_stands k s (Of t) a b n o p q h = cond_both (is_single s && is_single t) _ _ (λ x. Stands x (int_rem a b))
    (λ e.
    let l = and_parts _ _ e in
    let i = eq_true s.lo s.hi l.0 in
    let j = eq_true t.lo t.hi l.1 in
    let c : a ≡ s.lo = omega (arith, ints) in
    let d : b ≡ t.lo = omega (arith, ints) in
    subst₂ (λ x y. Stands (remainder k x y) (int_rem a b)) c d (remainder_stands k a b o h))
    (λ e. spread_stands k s t a b n p q h)

without_stands : (t : Span) (b : ℤ) → (b ≡ pos 0 → ⊥) → Stands (Of t) b → Stands (without_zero t) b
without_stands t b n h = stands_between _ _ b (raised t.lo b h.0 n) (lowered t.hi b h.1 n)

pub remainders_stands : (k : IntType) (s t : Span) (a b c : ℤ) → is_size k.bytes ≡ true → Stands (Of s) a → Stands (Of t) b → in_type k a ≡ true → binary_result Rem k a b ≡ Some c → Stands (remainders k s t) c
remainders_stands k s t a b c h p q i e =
    let g = remains_at k a b c (int_eq b (pos 0)) (is_quotient_overflow k a b) refl refl e in
    let r = is_remainder a b g.divides in
    let r' = r.lower in
    let r'' = r.upper in
    let f = range_facts k h in
    let l = f.least_high in
    let m = f.greatest_low in
    let o = of_type k a i in
    let w : in_type k (int_rem a b) ≡ true = in_type_between k (int_rem a b) (omega (arith, ints, clamps)) (omega (arith, ints, clamps)) in
    subst (Stands (remainders k s t)) g.is (by_stands k s (without_zero t) a b g.divides g.fits p (without_stands t b g.divides q) w)
