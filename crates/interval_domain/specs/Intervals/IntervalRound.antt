-- Rounding an interval to a list of numbers, and how often a rounded interval can grow.
use Rattle.std.specs.Prelude.{◌≡◌, ℕ, ◌+◌, ◌*◌, ◌≤◌, ◌<◌, suc, ℤ, pos, Bool, true, false, ◌&&◌, cond, ◌≤ℤ◌, int_le, int_lt, List, [], ◌∷◌, length, refl, ◌⊎◌}
use Rattle.std.specs.List.{list_any, count_by, Contains}
use Rattle.std.specs.Int.{int_min, int_max}
use Rattle.std.proofs.Common.{arith, ap, sym, subst, inl, inr}
use Rattle.std.proofs.lemmas.Int.{ints}
use Rattle.std.proofs.lemmas.Bool.{cond_both, cases_Bool, and_from}
use Rattle.std.proofs.lemmas.List.Sums.{count_by-le-length, sum_by-cons}
use Rattle.interval_domain.specs.declared.intervals.spans.Span.{Span}
use Rattle.interval_domain.specs.declared.intervals.intervals.Interval.{Interval}
use Rattle.interval_domain.specs.declared.intervals.intervals.Interval.TheVariants.{Bottom, Of}
use Rattle.interval_domain.specs.Intervals.Spans.{same_spans, between_or_empty, between_own}
use Rattle.interval_domain.specs.Intervals.IntervalOrder.{interval_leq, interval_join}
use Rattle.interval_domain.specs.Numbers.Nearest.{int_ge, nearest, or_own, Has, IsOrder, rounded_not_past, rounded_monotone, rounded_idempotent, rounded_has, rounded_from}

pub le_order : IsOrder int_le
le_order = record {
  reflexive = λ a. grind (arith, ints);
  transitive = λ a b c h k. grind (arith, ints);
  antisymmetric = λ a b h k. grind (arith, ints);
  total = λ a b h. grind (arith, ints);
}

pub ge_order : IsOrder int_ge
ge_order = record {
  reflexive = λ a. grind (arith, ints);
  transitive = λ a b c h k. grind (arith, ints);
  antisymmetric = λ a b h k. grind (arith, ints);
  total = λ a b h. grind (arith, ints);
}

-- the greatest number of the list that is at most x, or x if there is none
abbrev pub round_down : List ℤ → ℤ → ℤ
round_down list x = or_own x (nearest int_le list x)

-- the least number of the list that is at least x, or x if there is none
abbrev pub round_up : List ℤ → ℤ → ℤ
round_up list x = or_own x (nearest int_ge list x)

le_true : (a b : ℤ) → int_le a b ≡ true → a ≤ℤ b
le_true a b h = grind (arith, ints)

true_le : (a b : ℤ) → a ≤ℤ b → int_le a b ≡ true
true_le a b h = grind (arith, ints)

pub down_below : (list : List ℤ) (x : ℤ) → round_down list x ≤ℤ x
down_below list x = le_true _ _ (rounded_not_past le_order list x)

pub up_above : (list : List ℤ) (x : ℤ) → x ≤ℤ round_up list x
up_above list x = le_true _ _ (rounded_not_past ge_order list x)

pub rounded_ordered : (list : List ℤ) (a b : ℤ) → a ≤ℤ b → round_down list a ≤ℤ round_up list b
rounded_ordered list a b h =
    let p = down_below list a in
    let q = up_above list b in
    omega (arith, ints)

-- each bound moved outwards to the next number of the list; a bound beyond the list stays
abbrev pub rounded_span : List ℤ → Span → Span
rounded_span list s = record { lo = round_down list s.lo; hi = round_up list s.hi; ordered = rounded_ordered list s.lo s.hi s.ordered }

abbrev pub interval_round : List ℤ → Interval → Interval
interval_round list Bottom = Bottom
interval_round list (Of s) = Of (rounded_span list s)

pub round_rises : (list : List ℤ) (x : Interval) → interval_leq x (interval_round list x) ≡ true
round_rises list Bottom = refl
round_rises list (Of s) = let p = down_below list s.lo in let q = up_above list s.hi in grind (arith, ints)

pub round_monotone : (list : List ℤ) (x y : Interval) → interval_leq x y ≡ true → interval_leq (interval_round list x) (interval_round list y) ≡ true
round_monotone list Bottom y h = refl
round_monotone list (Of s) Bottom h = h
round_monotone list (Of s) (Of t) h =
    let a : int_le t.lo s.lo ≡ true = grind arith in
    let b : int_le s.hi t.hi ≡ true = grind arith in
    let p : int_le (round_down list t.lo) (round_down list s.lo) ≡ true = rounded_monotone le_order list t.lo s.lo a in
    let q : int_le (round_up list s.hi) (round_up list t.hi) ≡ true = rounded_monotone ge_order list t.hi s.hi b in
    grind arith

pub round_idempotent : (list : List ℤ) (x : Interval) → interval_round list (interval_round list x) ≡ interval_round list x
round_idempotent list Bottom = refl
round_idempotent list (Of s) = ap Of (same_spans _ (rounded_span list s) (rounded_idempotent le_order list s.lo) (rounded_idempotent ge_order list s.hi))

-- the bounds lie within the ends of the list
abbrev pub interval_within : List ℤ → Interval → Bool
interval_within list Bottom = true
interval_within list (Of s) = list_any (λ n. int_le n s.lo) list && list_any (λ n. int_le s.hi n) list

-- how many numbers of the list lie outside
abbrev pub interval_rank : List ℤ → Interval → ℕ
interval_rank list Bottom = 2 * length list + 1
interval_rank list (Of s) = count_by (λ n. int_lt n s.lo) list + count_by (λ n. int_lt s.hi n) list

abbrev pub interval_height : ℕ → ℕ
interval_height t = 2 * t + 1

any_wider : (p q : ℤ → Bool) (list : List ℤ) → ((n : ℤ) → p n ≡ true → q n ≡ true) → list_any p list ≡ true → list_any q list ≡ true
any_wider p q [] h k = k
any_wider p q (n ∷ s) h k = elim (cases_Bool (p n)) [ inl e ↦ (let f = h n e in grind arith) | inr e ↦ (let r = any_wider p q s h (grind arith) in grind arith) ]

any_has : (p : ℤ → Bool) (list : List ℤ) → list_any p list ≡ true → (k : ℤ) × Has list k × (p k ≡ true)
any_has p [] h = cc
any_has p (n ∷ s) h = elim (cases_Bool (p n)) [ inl e ↦ (n, inl refl, e) | inr e ↦ (let r = any_has p s (grind arith) in (r.0, inr r.1, r.2)) ]

count_cons : (p : ℤ → Bool) (n : ℤ) (s : List ℤ) → count_by p (n ∷ s) ≡ cond (p n) 1 0 + count_by p s
count_cons p n s = sum_by-cons (λ x. cond (p x) 1 0) n s

count_wider : (p q : ℤ → Bool) (list : List ℤ) → ((n : ℤ) → p n ≡ true → q n ≡ true) → count_by p list ≤ count_by q list
count_wider p q [] h = omega arith
count_wider p q (n ∷ s) h =
    let r = count_wider p q s h in
    let a = count_cons p n s in
    let b = count_cons q n s in
    elim (cases_Bool (p n)) [ inl e ↦ (let f = h n e in grind arith) | inr e ↦ grind arith ]

count_strict : (p q : ℤ → Bool) (list : List ℤ) (k : ℤ) → ((n : ℤ) → p n ≡ true → q n ≡ true) → Has list k → p k ≡ false → q k ≡ true → count_by p list < count_by q list
count_strict p q [] k h m a b = absurd m
count_strict p q (n ∷ s) k h (inl e) a b =
    let a' : p n ≡ false = subst (λ j. p j ≡ false) (sym e) a in
    let b' : q n ≡ true = subst (λ j. q j ≡ true) (sym e) b in
    let r = count_wider p q s h in
    let c = count_cons p n s in
    let d = count_cons q n s in
    grind arith
count_strict p q (n ∷ s) k h (inr m) a b =
    let r = count_strict p q s k h m a b in
    let c = count_cons p n s in
    let d = count_cons q n s in
    elim (cases_Bool (p n)) [ inl e ↦ (let f = h n e in grind arith) | inr e ↦ grind arith ]

has_any : (p : ℤ → Bool) (list : List ℤ) (k : ℤ) → Has list k → p k ≡ true → list_any p list ≡ true
has_any p [] k h e = absurd h
has_any p (n ∷ s) k (inl f) e = let g : p n ≡ true = subst (λ j. p j ≡ true) (sym f) e in grind arith
has_any p (n ∷ s) k (inr h) e = let r = has_any p s k h e in elim (cases_Bool (p n)) [ inl f ↦ grind arith | inr f ↦ grind arith ]

pub join_within : (list : List ℤ) (x y : Interval) → interval_within list x ≡ true → interval_within list y ≡ true → interval_within list (interval_join x y) ≡ true
join_within list Bottom y h k = k
join_within list (Of s) Bottom h k = h
join_within list (Of s) (Of t) h k =
    let a : list_any (λ n. int_le n s.lo) list ≡ true = grind arith in
    let b : list_any (λ n. int_le n t.lo) list ≡ true = grind arith in
    let c : list_any (λ n. int_le s.hi n) list ≡ true = grind arith in
    let d : list_any (λ n. int_le t.hi n) list ≡ true = grind arith in
    let p : list_any (λ n. int_le n (int_min s.lo t.lo)) list ≡ true = cond_both (int_lt t.lo s.lo) t.lo s.lo (λ m. list_any (λ n. int_le n m) list ≡ true) (λ _. b) (λ _. a) in
    let q : list_any (λ n. int_le (int_max s.hi t.hi) n) list ≡ true = cond_both (int_lt t.hi s.hi) s.hi t.hi (λ m. list_any (λ n. int_le m n) list ≡ true) (λ _. c) (λ _. d) in
    and_from _ _ p q

any_down : (list : List ℤ) (a : ℤ) → list_any (λ n. int_le n a) list ≡ true → Has list (round_down list a)
any_down list a h = let r = any_has (λ n. int_le n a) list h in rounded_has le_order list a r.0 r.1 r.2

any_up : (list : List ℤ) (a : ℤ) → list_any (λ n. int_le a n) list ≡ true → Has list (round_up list a)
any_up list a h = let r = any_has (λ n. int_le a n) list h in rounded_has ge_order list a r.0 r.1 r.2

pub round_within : (list : List ℤ) (x : Interval) → interval_within list x ≡ true → interval_within list (interval_round list x) ≡ true
round_within list Bottom h = h
round_within list (Of s) h =
    let a : list_any (λ n. int_le n s.lo) list ≡ true = grind arith in
    let c : list_any (λ n. int_le s.hi n) list ≡ true = grind arith in
    and_from _ _ (has_any (λ n. int_le n (round_down list s.lo)) list (round_down list s.lo) (any_down list s.lo a) (le_order.reflexive (round_down list s.lo)))
    (has_any (λ n. int_le (round_up list s.hi) n) list (round_up list s.hi) (any_up list s.hi c) (le_order.reflexive (round_up list s.hi)))

abbrev low_of : Interval → ℤ
low_of Bottom = pos 0
low_of (Of s) = s.lo

abbrev high_of : Interval → ℤ
high_of Bottom = pos 0
high_of (Of s) = s.hi

less_wider : (a b : ℤ) → int_le a b ≡ true → (n : ℤ) → int_lt n a ≡ true → int_lt n b ≡ true
less_wider a b h n e = grind (arith, ints)

more_wider : (a b : ℤ) → int_le b a ≡ true → (n : ℤ) → int_lt a n ≡ true → int_lt b n ≡ true
more_wider a b h n e = grind (arith, ints)

not_less : (a : ℤ) → int_lt a a ≡ false
not_less a = grind (arith, ints)

spans_fall : (list : List ℤ) (s t : Span) → Has list t.lo → Has list t.hi → int_le t.lo s.lo ≡ true → int_le s.hi t.hi ≡ true → (int_le s.lo t.lo && int_le t.hi s.hi) ≡ false → interval_rank list (Of t) < interval_rank list (Of s)
spans_fall list s t p q a b h =
    let lows : count_by (λ n. int_lt n t.lo) list ≤ count_by (λ n. int_lt n s.lo) list = count_wider (λ n. int_lt n t.lo) (λ n. int_lt n s.lo) list (less_wider t.lo s.lo a) in
    let highs : count_by (λ n. int_lt t.hi n) list ≤ count_by (λ n. int_lt s.hi n) list = count_wider (λ n. int_lt t.hi n) (λ n. int_lt s.hi n) list (more_wider t.hi s.hi b) in
    elim (cases_Bool (int_lt t.lo s.lo)) [
      | inl e ↦ (let r = count_strict (λ n. int_lt n t.lo) (λ n. int_lt n s.lo) list t.lo (less_wider t.lo s.lo a) p (not_less t.lo) e in omega arith)
      | inr e ↦ (let f : int_lt s.hi t.hi ≡ true = grind (arith, ints) in
          let r = count_strict (λ n. int_lt t.hi n) (λ n. int_lt s.hi n) list t.hi (more_wider t.hi s.hi b) q (not_less t.hi) f in omega arith)
    ]

pub rank_falls : (list : List ℤ) (x y : Interval) → interval_within list x ≡ true → interval_within list y ≡ true → interval_round list x ≡ x → interval_round list y ≡ y → interval_leq x y ≡ true → interval_leq y x ≡ false → interval_rank list y < interval_rank list x
rank_falls list Bottom Bottom a b c d h k = cc
rank_falls list (Of s) Bottom a b c d h k = cc
rank_falls list Bottom (Of t) a b c d h k =
    let p = count_by-le-length (λ n. int_lt n t.lo) list in
    let q = count_by-le-length (λ n. int_lt t.hi n) list in
    omega arith
rank_falls list (Of s) (Of t) a b c d h k =
    let e : round_down list t.lo ≡ t.lo = ap low_of d in
    let f : round_up list t.hi ≡ t.hi = ap high_of d in
    let g : list_any (λ n. int_le n t.lo) list ≡ true = grind arith in
    let i : list_any (λ n. int_le t.hi n) list ≡ true = grind arith in
    spans_fall list s t (subst (Has list) e (any_down list t.lo g)) (subst (Has list) f (any_up list t.hi i)) (grind arith) (grind arith) k

pub rank_bounded : (list : List ℤ) (x : Interval) → interval_rank list x ≤ interval_height (length list)
rank_bounded list Bottom = omega arith
rank_bounded list (Of t) =
    let p = count_by-le-length (λ n. int_lt n t.lo) list in
    let q = count_by-le-length (λ n. int_lt t.hi n) list in
    omega arith

-- each bound that rounding leaves is a number of the list or the bound that was there
pub down_from : (list : List ℤ) (x : ℤ) → (round_down list x ≡ x) ⊎ Has list (round_down list x)
down_from list x = rounded_from le_order list x

pub up_from : (list : List ℤ) (x : ℤ) → (round_up list x ≡ x) ⊎ Has list (round_up list x)
up_from list x = rounded_from ge_order list x

pub contains_from : (list : List ℤ) (k : ℤ) → Has list k → Contains list k
contains_from [] k h = absurd h
contains_from (n ∷ s) k (inl e) = (0, omega arith, e)
contains_from (n ∷ s) k (inr h) = let r = contains_from s k h in (suc r.0, omega arith, r.2)

-- the rounded interval by its bounds
pub round_is : (list : List ℤ) (s : Span) → between_or_empty (round_down list s.lo) (round_up list s.hi) ≡ interval_round list (Of s)
round_is list s = between_own (rounded_span list s)
