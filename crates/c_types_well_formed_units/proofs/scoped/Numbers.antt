-- Lists of numbers of objects: which are among others, and which are new.
use Rattle.std.proofs.Common.{◌≡◌, ◌<◌, ◌≤◌, ◌+◌, ◌⊎◌, inl, inr, ℕ, zero, suc, ◌==◌, Bool, true, false, not, ◌&&◌, ◌||◌, List, [], ◌∷◌, ◌++◌, arith, refl, ap, sym, ◌∙◌, eq-eqb}
use Rattle.std.proofs.lemmas.Bool.{cases_Bool, eqb-true}
use Rattle.lower_functions.specs.Functions.Functions.{numbers_from}
use Rattle.semantics.specs.SourceMachine.Scopes.{is_in}
use Rattle.source_preservation.proofs.checks.Truths.{never, both_true, either_true, is_false}
use Rattle.source_preservation.specs.UnitChecks.LookedScopes.{are_distinct}
use Rattle.c_types_well_formed_units.specs.Scoped.SeenObjects.{AreNew}

pub two : (a b : Bool) → a ≡ true → b ≡ true → (a && b) ≡ true
two true b g h = h
two false b g h = g

pub unlike : (b : Bool) → (b ≡ true → ⊥) → b ≡ false
unlike true h = absurd (h refl)
unlike false h = refl

pub either_is : (a b : Bool) → b ≡ true → (a || b) ≡ true
either_is true b h = refl
either_is false b h = h

pub not_false : (b : Bool) → b ≡ false → not b ≡ true
not_false true h = sym h
not_false false h = refl

-- ---- numbers of two lists

pub in_parts : (k : ℕ) (xs ys : List ℕ) → is_in k (xs ++ ys) ≡ true → (is_in k xs ≡ true) ⊎ (is_in k ys ≡ true)
in_parts k [] ys h = inr h
in_parts k (x ∷ xs) ys h = by (k == x) (λ later. in_parts k xs ys later) h
  where
    by : (here : Bool) → (is_in k (xs ++ ys) ≡ true → (is_in k xs ≡ true) ⊎ (is_in k ys ≡ true)) → (here || is_in k (xs ++ ys)) ≡ true → ((here || is_in k xs) ≡ true) ⊎ (is_in k ys ≡ true)
    by true later e = inl refl
    by false later e = later e

pub in_front : (k : ℕ) (xs ys : List ℕ) → is_in k xs ≡ true → is_in k (xs ++ ys) ≡ true
in_front k [] ys h = never h
in_front k (x ∷ xs) ys h = by (k == x) (λ later. in_front k xs ys later) h
  where
    by : (here : Bool) → (is_in k xs ≡ true → is_in k (xs ++ ys) ≡ true) → (here || is_in k xs) ≡ true → (here || is_in k (xs ++ ys)) ≡ true
    by true later e = refl
    by false later e = later e

pub in_back : (k : ℕ) (xs ys : List ℕ) → is_in k ys ≡ true → is_in k (xs ++ ys) ≡ true
in_back k [] ys h = h
in_back k (x ∷ xs) ys h = either_is (k == x) (is_in k (xs ++ ys)) (in_back k xs ys h)

pub is_only : (k n : ℕ) → is_in k (n ∷ []) ≡ true → k ≡ n
is_only k n h = elim (either_true (k == n) false h) [ inl same ↦ eqb-true k n same | inr none ↦ never none ]

pub in_itself : (n : ℕ) → is_in n (n ∷ []) ≡ true
in_itself n = ap (λ b. b || false) (eq-eqb n n refl)

pub in_numbers : (first count k : ℕ) → first ≤ k → k < first + count → is_in k (numbers_from first count) ≡ true
in_numbers first zero k least most = absurd (omega (arith, least, most))
in_numbers first (suc n) k least most = elim (cases_Bool (k == first)) [
  | inl same ↦ ap (λ b. b || is_in k (numbers_from (first + 1) n)) same
  | inr other ↦ either_is (k == first) (is_in k (numbers_from (first + 1) n)) (in_numbers (first + 1) n k (behind other) (omega (arith, most)))
]
  where
    behind : (k == first) ≡ false → first + 1 ≤ k
    behind other = by_order (λ same. differs (sym (eq-eqb k first same) ∙ other))
      where
        differs : true ≡ false → ⊥
        differs e = cc

        by_order : (k ≡ first → ⊥) → first + 1 ≤ k
        by_order h = omega (arith, least, h)

pub numbers_are : (first count k : ℕ) → is_in k (numbers_from first count) ≡ true → k < first + count
numbers_are first zero k h = never h
numbers_are first (suc n) k h = elim (either_true (k == first) (is_in k (numbers_from (first + 1) n)) h) [
  | inl same ↦ (let e = eqb-true k first same in omega (arith, e))
  | inr later ↦ (let e = numbers_are (first + 1) n k later in omega (arith, e))
]

-- ---- new numbers

pub none_new : (few many : ℕ) → AreNew [] few many
none_new few many = record { distinct = refl; least = λ k h. never h; most = λ k h. never h }

pub one_new : (few many : ℕ) → few < many → AreNew (few ∷ []) few many
one_new few many less = record {
  distinct = refl;
  least = λ k h. (let e = is_only k few h in omega (arith, e));
  most = λ k h. (let e = is_only k few h in omega (arith, e, less));
}

distinct_both : (xs ys : List ℕ) → are_distinct xs ≡ true → are_distinct ys ≡ true → ((k : ℕ) → is_in k xs ≡ true → is_in k ys ≡ false) → are_distinct (xs ++ ys) ≡ true
distinct_both [] ys g h apart = h
distinct_both (x ∷ xs) ys g h apart =
    let first = both_true (not (is_in x xs)) (are_distinct xs) g in
    two (not (is_in x (xs ++ ys))) (are_distinct (xs ++ ys)) (not_false (is_in x (xs ++ ys)) (unlike (is_in x (xs ++ ys)) (nowhere (is_false (is_in x xs) first.0))))
    (distinct_both xs ys first.1 h (λ k is. apart k (either_is (k == x) (is_in k xs) is)))
  where
    here : is_in x (x ∷ xs) ≡ true
    here = ap (λ b. b || is_in x xs) (eq-eqb x x refl)

    apart_bits : (b : Bool) → b ≡ false → b ≡ true → ⊥
    apart_bits b f t = cc

    nowhere : is_in x xs ≡ false → is_in x (xs ++ ys) ≡ true → ⊥
    nowhere none is = elim (in_parts x xs ys is) [ inl front ↦ apart_bits (is_in x xs) none front | inr back ↦ apart_bits (is_in x ys) (apart x here) back ]

pub both_new : (xs ys : List ℕ) (few middle many : ℕ) → few ≤ middle → middle ≤ many → AreNew xs few middle → AreNew ys middle many → AreNew (xs ++ ys) few many
both_new xs ys few middle many low high g h = record {
  distinct = distinct_both xs ys g.distinct h.distinct (λ k is. unlike (is_in k ys) (λ also. (let a = g.most k is in let b = h.least k also in omega (arith, a, b))));
  least = λ k is. elim (in_parts k xs ys is) [ inl front ↦ g.least k front | inr back ↦ (let b = h.least k back in omega (arith, low, b)) ];
  most = λ k is. elim (in_parts k xs ys is) [ inl front ↦ (let a = g.most k front in omega (arith, high, a)) | inr back ↦ h.most k back ];
}
