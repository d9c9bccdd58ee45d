-- Ascending lists of the same numbers are the same lists.
use Rattle.std.specs.Prelude.{◌≡◌, ◌<◌, ◌++◌, ℕ, zero, suc, ℤ, int_lt, true, List, [], ◌∷◌, length, slice_index_or, Contains, refl, ◌⊎◌}
use Rattle.std.proofs.Common.{arith, sym, subst, inl, inr}
use Rattle.std.proofs.lemmas.Bool.{and_parts}
use Rattle.std.proofs.lemmas.Int.{ints}
use Rattle.cc_base.specs.Ascending.{is_ascending}
use Rattle.cfg.specs.Nearest.{nearest_of, AreThresholds}

-- ---- the numbers of a list

abbrev In : List ℤ → ℤ → Type 0
In [] z = ⊥
In (x ∷ xs) z = (x ≡ z) ⊎ In xs z

abbrev AreIn : List ℤ → List ℤ → Type 0
AreIn xs ys = (z : ℤ) → In xs z → In ys z

in_at : (xs : List ℤ) (z : ℤ) (k : ℕ) → k < length xs → slice_index_or xs k z ≡ z → In xs z
in_at [] z k h e = absurd (omega arith)
in_at (y ∷ xs) z zero h e = inl e
in_at (y ∷ xs) z (suc k) h e = inr (in_at xs z k (omega arith) e)

contains_in : (xs : List ℤ) (z : ℤ) → In xs z → Contains xs z
contains_in [] z h = absurd h
contains_in (x ∷ xs) z (inl e) = (0, omega arith, e)
contains_in (x ∷ xs) z (inr h) = let c = contains_in xs z h in let less = c.1 in (suc c.0, omega arith, c.2)

-- ---- the order

less_on : (x y z : ℤ) → int_lt x y ≡ true → int_lt y z ≡ true → int_lt x z ≡ true
less_on x y z h k = grind (arith, ints)

one_way : (x y : ℤ) → int_lt x y ≡ true → int_lt y x ≡ true → ⊥
one_way x y h k = grind (arith, ints)

below_each : (x : ℤ) (xs : List ℤ) → is_ascending (x ∷ xs) ≡ true → (z : ℤ) → In xs z → int_lt x z ≡ true
below_each x [] h z i = absurd i
below_each x (y ∷ xs) h z (inl e) = subst (λ w. int_lt x w ≡ true) e (and_parts (int_lt x y) (is_ascending (y ∷ xs)) h).0
below_each x (y ∷ xs) h z (inr i) = let p = and_parts (int_lt x y) (is_ascending (y ∷ xs)) h in less_on x y z p.0 (below_each y xs p.1 z i)

rest_ascends : (x : ℤ) (xs : List ℤ) → is_ascending (x ∷ xs) ≡ true → is_ascending xs ≡ true
rest_ascends x [] h = refl
rest_ascends x (y ∷ xs) h = (and_parts (int_lt x y) (is_ascending (y ∷ xs)) h).1

-- ---- lists

-- what is behind the first of a list is in the rest of another one with that first
behind : (x : ℤ) (xs ys : List ℤ) → is_ascending (x ∷ xs) ≡ true → AreIn (x ∷ xs) (x ∷ ys) → AreIn xs ys
behind x xs ys h k z i = elim (k z (inr i)) [
  | inl p ↦ absurd (let b = subst (λ w. int_lt x w ≡ true) (sym p) (below_each x xs h z i) in one_way x x b b)
  | inr j ↦ j
]

-- the first of two lists in order with the same numbers
first_same : (x y : ℤ) (xs ys : List ℤ) → is_ascending (x ∷ xs) ≡ true → is_ascending (y ∷ ys) ≡ true → In (y ∷ ys) x → In (x ∷ xs) y → x ≡ y
first_same x y xs ys h k (inl p) j = sym p
first_same x y xs ys h k (inr i) (inl q) = q
first_same x y xs ys h k (inr i) (inr j) = absurd (one_way x y (below_each x xs h y j) (below_each y ys k x i))

same_lists : (xs ys : List ℤ) → is_ascending xs ≡ true → is_ascending ys ≡ true → AreIn xs ys → AreIn ys xs → xs ≡ ys
same_lists [] [] s t h k = refl
same_lists [] (y ∷ ys) s t h k = absurd (k y (inl refl))
same_lists (x ∷ xs) [] s t h k = absurd (h x (inl refl))
same_lists (x ∷ xs) (y ∷ ys) s t h k =
    let e : x ≡ y = first_same x y xs ys s t (h x (inl refl)) (k y (inl refl)) in
    let there : AreIn (x ∷ xs) (x ∷ ys) = subst (λ z. AreIn (x ∷ xs) (z ∷ ys)) (sym e) h in
    let back : AreIn (x ∷ ys) (x ∷ xs) = subst (λ z. AreIn (z ∷ ys) (x ∷ xs)) (sym e) k in
    let order : is_ascending (x ∷ ys) ≡ true = subst (λ z. is_ascending (z ∷ ys) ≡ true) (sym e) t in
    let rest : xs ≡ ys = same_lists xs ys (rest_ascends x xs s) (rest_ascends y ys t) (behind x xs ys s there) (behind x ys xs order back) in
    λ i. e i ∷ rest i

pub one_list : (xs ys : List ℤ) → is_ascending xs ≡ true → is_ascending ys ≡ true → ((n : ℤ) → Contains xs n → Contains ys n) → ((n : ℤ) → Contains ys n → Contains xs n) → xs ≡ ys
one_list xs ys s t h k =
    same_lists xs ys s t (λ z i. let c = h z (contains_in xs z i) in in_at ys z c.0 c.1 c.2) (λ z i. let c = k z (contains_in ys z i) in in_at xs z c.0 c.1 c.2)

-- ---- thresholds

pub one_thresholds : (limits numbers xs ys : List ℤ) → AreThresholds limits numbers xs → AreThresholds limits numbers ys → is_ascending xs ≡ true → is_ascending ys ≡ true → xs ≡ ys
one_thresholds limits numbers xs ys a b s t =
    let others : a.others ≡ b.others = one_list a.others b.others a.ascending b.ascending (λ n c. b.all n (a.no_more n c)) (λ n c. a.all n (b.no_more n c)) in
    one_list xs ys s t
    (λ n c. b.kept n (subst (λ (o : List ℤ). Contains (limits ++ nearest_of o) n) others (a.made n c)))
    (λ n c. a.kept n (subst (λ (o : List ℤ). Contains (limits ++ nearest_of o) n) (sym others) (b.made n c)))
