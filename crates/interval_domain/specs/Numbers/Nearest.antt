-- The number of a list that is nearest to a number from one side.
use Rattle.std.specs.Prelude.{◌≡◌, ℤ, Bool, true, false, cond, int_le, Option, Some, None, List, [], ◌∷◌, refl, ◌⊎◌}
use Rattle.std.specs.List.{fold}
use Rattle.std.proofs.Common.{ap, sym, inl, inr, subst}
use Rattle.std.proofs.lemmas.Bool.{cond_both, false_from_ne_true}

-- the order turned round
abbrev pub int_ge : ℤ → ℤ → Bool
int_ge a b = int_le b a

-- the later of two numbers in an order
abbrev pub later : (ℤ → ℤ → Bool) → Option ℤ → ℤ → ℤ
later le None n = n
later le (Some m) n = cond (le m n) n m

-- the best number so far, after one more
abbrev pub nearer : (ℤ → ℤ → Bool) → ℤ → Option ℤ → ℤ → Option ℤ
nearer le x best n = cond (le n x) (Some (later le best n)) best

-- the last number of the list, in the order `le`, that is not past x
unfoldable pub nearest : (ℤ → ℤ → Bool) → List ℤ → ℤ → Option ℤ
nearest le list x = fold (nearer le x) None list

-- x if there is none
abbrev pub or_own : ℤ → Option ℤ → ℤ
or_own x None = x
or_own x (Some m) = m

-- n is a number of the list
abbrev pub Has : List ℤ → ℤ → Type 0
Has [] n = ⊥
Has (x ∷ xs) n = (x ≡ n) ⊎ Has xs n

-- a total order
pub record IsOrder (le : ℤ → ℤ → Bool) : Type 0 where
  pub reflexive : (a : ℤ) → le a a ≡ true
  pub transitive : (a b c : ℤ) → le a b ≡ true → le b c ≡ true → le a c ≡ true
  pub antisymmetric : (a b : ℤ) → le a b ≡ true → le b a ≡ true → a ≡ b
  pub total : (a b : ℤ) → le a b ≡ false → le b a ≡ true

-- what is found is not past x
abbrev pub NotPast : (ℤ → ℤ → Bool) → ℤ → Option ℤ → Type 0
NotPast le x None = Unit {0}
NotPast le x (Some m) = le m x ≡ true

-- what is found is n or behind it
abbrev pub Reaches : (ℤ → ℤ → Bool) → ℤ → Option ℤ → Type 0
Reaches le n None = ⊥
Reaches le n (Some m) = le n m ≡ true

module _ {le : ℤ → ℤ → Bool} (o : IsOrder le) where
  later_both : (P : ℤ → Type 0) (m n : ℤ) → (le m n ≡ true → P n) → (le m n ≡ false → P m) → P (later le (Some m) n)
  later_both P m n f g = cond_both (le m n) n m P f g

  later_not_past : (x : ℤ) (best : Option ℤ) (n : ℤ) → NotPast le x best → le n x ≡ true → le (later le best n) x ≡ true
  later_not_past x None n h e = e
  later_not_past x (Some m) n h e = later_both (λ k. le k x ≡ true) m n (λ _. e) (λ _. h)

  later_reaches : (best : Option ℤ) (n : ℤ) → le n (later le best n) ≡ true
  later_reaches None n = o.reflexive n
  later_reaches (Some m) n = later_both (λ k. le n k ≡ true) m n (λ _. o.reflexive n) (λ e. o.total m n e)

  later_keeps : (m n : ℤ) → le m (later le (Some m) n) ≡ true
  later_keeps m n = later_both (λ k. le m k ≡ true) m n (λ e. e) (λ _. o.reflexive m)

  step_not_past : (x : ℤ) (best : Option ℤ) (n : ℤ) → NotPast le x best → NotPast le x (nearer le x best n)
  step_not_past x best n h = cond_both (le n x) (Some (later le best n)) best (NotPast le x) (λ e. later_not_past x best n h e) (λ _. h)

  kept_later : (k : ℤ) (best : Option ℤ) (n : ℤ) → Reaches le k best → Reaches le k (Some (later le best n))
  kept_later k None n h = absurd h
  kept_later k (Some m) n h = o.transitive k m (later le (Some m) n) h (later_keeps m n)

  step_keeps : (x k : ℤ) (best : Option ℤ) (n : ℤ) → Reaches le k best → Reaches le k (nearer le x best n)
  step_keeps x k best n h = cond_both (le n x) (Some (later le best n)) best (Reaches le k) (λ _. kept_later k best n h) (λ _. h)

  step_reaches : (x : ℤ) (best : Option ℤ) (n : ℤ) → le n x ≡ true → Reaches le n (nearer le x best n)
  step_reaches x best n e = subst (λ b. Reaches le n (cond b (Some (later le best n)) best)) (sym e) (later_reaches best n)

  walk_not_past : (x : ℤ) (list : List ℤ) (best : Option ℤ) → NotPast le x best → NotPast le x (fold (nearer le x) best list)
  walk_not_past x [] best h = h
  walk_not_past x (n ∷ s) best h = walk_not_past x s (nearer le x best n) (step_not_past x best n h)

  walk_keeps : (x k : ℤ) (list : List ℤ) (best : Option ℤ) → Reaches le k best → Reaches le k (fold (nearer le x) best list)
  walk_keeps x k [] best h = h
  walk_keeps x k (n ∷ s) best h = walk_keeps x k s (nearer le x best n) (step_keeps x k best n h)

  walk_reaches : (x k : ℤ) (list : List ℤ) (best : Option ℤ) → Has list k → le k x ≡ true → Reaches le k (fold (nearer le x) best list)
  walk_reaches x k [] best h e = absurd h
  walk_reaches x k (n ∷ s) best (inl p) e = walk_keeps x k s (nearer le x best n) (subst (λ j. Reaches le j (nearer le x best n)) p (step_reaches x best n (subst (λ j. le j x ≡ true) (sym p) e)))
  walk_reaches x k (n ∷ s) best (inr h) e = walk_reaches x k s (nearer le x best n) h e

  later_from : (best : Option ℤ) (n m : ℤ) → later le best n ≡ m → (best ≡ Some m) ⊎ (n ≡ m)
  later_from None n m e = inr e
  later_from (Some k) n m e = later_both (λ j. j ≡ m → (Some k ≡ Some m) ⊎ (n ≡ m)) k n (λ _ (p : n ≡ m). inr p) (λ _ (p : k ≡ m). inl (ap Some p)) e

  some_same : (a b : ℤ) → Some a ≡ Some b → a ≡ b
  some_same a b e = cc

  step_from : (x : ℤ) (best : Option ℤ) (n m : ℤ) → nearer le x best n ≡ Some m → (best ≡ Some m) ⊎ (n ≡ m)
  step_from x best n m e = cond_both (le n x) (Some (later le best n)) best (λ r. r ≡ Some m → (best ≡ Some m) ⊎ (n ≡ m)) (λ _ (p : Some (later le best n) ≡ Some m). later_from best n m (some_same _ m p)) (λ _ (p : best ≡ Some m). inl p) e

  walk_from : (x : ℤ) (list : List ℤ) (best : Option ℤ) (m : ℤ) → fold (nearer le x) best list ≡ Some m → (best ≡ Some m) ⊎ Has list m
  walk_from x [] best m e = inl e
  walk_from x (n ∷ s) best m e = elim (walk_from x s (nearer le x best n) m e) [ inl p ↦ elim (step_from x best n m p) [ inl q ↦ inl q | inr q ↦ inr (inl q) ] | inr h ↦ inr (inr h) ]

  -- what is found is of the list
  pub nearest_has : (list : List ℤ) (x m : ℤ) → nearest le list x ≡ Some m → Has list m
  unfolding nearest
  nearest_has list x m e = elim (walk_from x list None m e) [ inl p ↦ (cc) | inr h ↦ h ]

  -- what is found is not past x
  pub nearest_not_past : (list : List ℤ) (x : ℤ) → NotPast le x (nearest le list x)
  unfolding nearest
  nearest_not_past list x = walk_not_past x list None tt

  -- each number of the list that is not past x is not past what is found
  pub nearest_reaches : (list : List ℤ) (x k : ℤ) → Has list k → le k x ≡ true → Reaches le k (nearest le list x)
  unfolding nearest
  nearest_reaches list x k h e = walk_reaches x k list None h e

  own_not_past : (x : ℤ) (r : Option ℤ) → NotPast le x r → le (or_own x r) x ≡ true
  own_not_past x None h = o.reflexive x
  own_not_past x (Some m) h = h

  pub rounded_not_past : (list : List ℤ) (x : ℤ) → le (or_own x (nearest le list x)) x ≡ true
  rounded_not_past list x = own_not_past x (nearest le list x) (nearest_not_past list x)

  -- where a number is found for x, what is found for a later y is not before it
  monotone_some : (list : List ℤ) (x y m : ℤ) (r : Option ℤ) → Reaches le m r → le m (or_own y r) ≡ true
  monotone_some list x y m None h = absurd h
  monotone_some list x y m (Some k) h = h

  none_reaches : (list : List ℤ) (x k : ℤ) → nearest le list x ≡ None → Has list k → le k x ≡ true → ⊥
  none_reaches list x k e h p = subst (Reaches le k) e (nearest_reaches list x k h p)

  monotone_none : (list : List ℤ) (x y : ℤ) (r : Option ℤ) → nearest le list x ≡ None → le x y ≡ true → nearest le list y ≡ r → le x (or_own y r) ≡ true
  monotone_none list x y None e h f = h
  monotone_none list x y (Some m) e h f = o.total m x (false_from_ne_true (le m x) (λ p. none_reaches list x m e (nearest_has list y m f) p))

  monotone_at : (list : List ℤ) (x y : ℤ) (r : Option ℤ) → nearest le list x ≡ r → le x y ≡ true → le (or_own x r) (or_own y (nearest le list y)) ≡ true
  monotone_at list x y None e h = monotone_none list x y (nearest le list y) e h refl
  monotone_at list x y (Some m) e h =
      let p : NotPast le x (Some m) = subst (NotPast le x) e (nearest_not_past list x) in
      monotone_some list x y m (nearest le list y) (nearest_reaches list y m (nearest_has list x m e) (o.transitive m x y p h))

  pub rounded_monotone : (list : List ℤ) (x y : ℤ) → le x y ≡ true → le (or_own x (nearest le list x)) (or_own y (nearest le list y)) ≡ true
  rounded_monotone list x y h = monotone_at list x y (nearest le list x) refl h

  same_at : (m : ℤ) (r : Option ℤ) → NotPast le m r → Reaches le m r → or_own m r ≡ m
  same_at m None h k = refl
  same_at m (Some j) h k = o.antisymmetric j m h k

  -- a number of the list is found for itself
  pub rounded_member : (list : List ℤ) (m : ℤ) → Has list m → or_own m (nearest le list m) ≡ m
  rounded_member list m h = same_at m (nearest le list m) (nearest_not_past list m) (nearest_reaches list m m h (o.reflexive m))

  idempotent_at : (list : List ℤ) (x : ℤ) (r : Option ℤ) → nearest le list x ≡ r → or_own (or_own x r) (nearest le list (or_own x r)) ≡ or_own x r
  idempotent_at list x None e = subst (λ r. or_own x r ≡ x) (sym e) refl
  idempotent_at list x (Some m) e = rounded_member list m (nearest_has list x m e)

  pub rounded_idempotent : (list : List ℤ) (x : ℤ) → or_own (or_own x (nearest le list x)) (nearest le list (or_own x (nearest le list x))) ≡ or_own x (nearest le list x)
  rounded_idempotent list x = idempotent_at list x (nearest le list x) refl

  own_from : (list : List ℤ) (x : ℤ) (r : Option ℤ) → nearest le list x ≡ r → (or_own x r ≡ x) ⊎ Has list (or_own x r)
  own_from list x None e = inl refl
  own_from list x (Some m) e = inr (nearest_has list x m e)

  -- a rounded number is the number or one of the list
  pub rounded_from : (list : List ℤ) (x : ℤ) → (or_own x (nearest le list x) ≡ x) ⊎ Has list (or_own x (nearest le list x))
  rounded_from list x = own_from list x (nearest le list x) refl

  has_own : (list : List ℤ) (x k : ℤ) (r : Option ℤ) → nearest le list x ≡ r → Reaches le k r → Has list (or_own x r)
  has_own list x k None e h = absurd h
  has_own list x k (Some m) e h = nearest_has list x m e

  -- where some number of the list is not past x, the rounded number is of the list
  pub rounded_has : (list : List ℤ) (x k : ℤ) → Has list k → le k x ≡ true → Has list (or_own x (nearest le list x))
  rounded_has list x k h e = has_own list x k (nearest le list x) refl (nearest_reaches list x k h e)
