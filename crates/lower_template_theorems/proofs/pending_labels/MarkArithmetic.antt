-- Sums of marks.
use Rattle.std.proofs.Common.{◌≡◌, ◌≤◌, ◌<◌, ◌⊎◌, inl, inr, ℕ, ◌+◌, ◌==◌, Bool, true, false, cond, nat_lt, List, [], ◌∷◌, ◌++◌, refl, arith}
use Rattle.std.proofs.lemmas.Bool.{eq-eqb, eqb-true, lt-ltb, le-ltb, ltb-true, ltb-false, cond-true, cond-false}
use Rattle.lower_templates.specs.Worklist.Pieces.{PieceView}
use Rattle.lower_template_theorems.specs.PendingLabels.Marks.{one, below, all_marked}

pub below_yes : (l m : ℕ) → l < m → below l m ≡ 1
below_yes l m less = cond-true (nat_lt l m) 1 0 (lt-ltb l m less)

pub below_no : (l m : ℕ) → m ≤ l → below l m ≡ 0
below_no l m less = cond-false (nat_lt l m) 1 0 (le-ltb l m less)

pub one_yes : (l m : ℕ) → l ≡ m → one l m ≡ 1
one_yes l m e = cond-true (l == m) 1 0 (eq-eqb l m e)

pub one_no : (l m : ℕ) → (l ≡ m → ⊥) → one l m ≡ 0
one_no l m apart = cond-false (l == m) 1 0 (is_false (l == m) refl)
  where
    is_false : (b : Bool) → (l == m) ≡ b → (l == m) ≡ false
    is_false false e = e
    is_false true e = absurd (apart (eqb-true l m e))

pub compared : (l m : ℕ) → (l < m) ⊎ ((l ≡ m) ⊎ (m < l))
compared l m = by (nat_lt l m) refl
  where
    same : l ≤ m → m ≤ l → l ≡ m
    same a b = omega (arith, a, b)

    back : m ≤ l → (b : Bool) → nat_lt m l ≡ b → (l ≡ m) ⊎ (m < l)
    back le true e = inr (ltb-true m l e)
    back le false e = inl (same (ltb-false m l e) le)

    by : (b : Bool) → nat_lt l m ≡ b → (l < m) ⊎ ((l ≡ m) ⊎ (m < l))
    by true e = inl (ltb-true l m e)
    by false e = inr (back (ltb-false l m e) (nat_lt m l) refl)

less_apart : (l m : ℕ) → l < m → l ≡ m → ⊥
less_apart l m less e = omega (arith, less, e)

more_apart : (l m : ℕ) → m < l → l ≡ m → ⊥
more_apart l m less e = omega (arith, less, e)

sum_one : (a b c x y z : ℕ) → a ≡ x → b ≡ y → c ≡ z → x + y ≤ z → a + b ≤ c
sum_one a b c x y z p q r le = omega (arith, p, q, r, le)

-- one number more
pub one_below : (l m : ℕ) → one l m + below l m ≤ below l (m + 1)
one_below l m = by (compared l m)
  where
    by : (l < m) ⊎ ((l ≡ m) ⊎ (m < l)) → one l m + below l m ≤ below l (m + 1)
    by (inl less) = sum_one _ _ _ 0 1 1 (one_no l m (less_apart l m less)) (below_yes l m less) (below_yes l (m + 1) (omega (arith, less))) (omega arith)
    by (inr (inl e)) = sum_one _ _ _ 1 0 1 (one_yes l m e) (below_no l m (omega (arith, e))) (below_yes l (m + 1) (omega (arith, e))) (omega arith)
    by (inr (inr more)) = sum_one _ _ _ 0 0 0 (one_no l m (more_apart l m more)) (below_no l m (omega (arith, more))) (below_no l (m + 1) (omega (arith, more))) (omega arith)

pub below_more : (l m n : ℕ) → m ≤ n → below l m ≤ below l n
below_more l m n le = by (nat_lt l m) refl
  where
    sum : (a b : ℕ) → a ≡ 1 → b ≡ 1 → a ≤ b
    sum a b p q = omega (arith, p, q)

    none : (a b : ℕ) → a ≡ 0 → a ≤ b
    none a b p = omega (arith, p)

    by : (b : Bool) → nat_lt l m ≡ b → below l m ≤ below l n
    by true e = let less = ltb-true l m e in sum (below l m) (below l n) (below_yes l m less) (below_yes l n (omega (arith, less, le)))
    by false e = none (below l m) (below l n) (below_no l m (ltb-false l m e))

pub at_most_one : (l m : ℕ) → below l m ≤ 1
at_most_one l m = by (nat_lt l m) refl
  where
    is : (a k : ℕ) → a ≡ k → k ≤ 1 → a ≤ 1
    is a k e le = omega (arith, e, le)

    by : (b : Bool) → nat_lt l m ≡ b → below l m ≤ 1
    by true e = is (below l m) 1 (below_yes l m (ltb-true l m e)) (omega arith)
    by false e = is (below l m) 0 (below_no l m (ltb-false l m e)) (omega arith)

pub marked_append : (l : ℕ) (xs ys : List PieceView) → all_marked l (xs ++ ys) ≡ all_marked l xs + all_marked l ys
marked_append l [] ys = let e : all_marked l ys ≡ 0 + all_marked l ys = omega arith in e
marked_append l (x ∷ xs) ys = let e = marked_append l xs ys in omega (arith, e)

-- a sum on one side of a choice
pub cond_sum : (b : Bool) (x y : ℕ) → cond b (x + y) 0 ≡ cond b x 0 + cond b y 0
cond_sum true x y = refl
cond_sum false x y = refl
