-- Places in lists that grow.
use Rattle.std.proofs.Common.{◌≡◌, ◌<◌, ◌≤◌, ◌⊎◌, inl, inr, ℕ, zero, suc, ◌+◌, List, [], ◌∷◌, ◌++◌, length, take, drop, Option, Some, None, refl, arith, ap, sym, ◌∙◌}
use Rattle.std.specs.List.{slice_get, slice_set}
use Rattle.lower_tables.specs.Bases.BaseTables.{known}

pub some_same : {A : Type 0} (x y : A) → Some x ≡ Some y → x ≡ y
some_same x y e = cc

pub none_is_not : {A : Type 0} (x : A) → None ≡ Some x → ⊥
none_is_not x e = cc

module _ {A : Type 0} where
  pub within : (xs : List A) (k : ℕ) (x : A) → slice_get xs k ≡ Some x → k < length xs
  within [] k x is = cc
  within (y ∷ ys) zero x is = omega arith
  within (y ∷ ys) (suc k) x is = let less = within ys k x is in omega (arith, less)

  pub left_of : (xs ys : List A) (k : ℕ) (x : A) → slice_get xs k ≡ Some x → slice_get (xs ++ ys) k ≡ Some x
  left_of [] ys k x is = cc
  left_of (z ∷ xs) ys zero x is = is
  left_of (z ∷ xs) ys (suc k) x is = left_of xs ys k x is

  pub at_end : (xs : List A) (x : A) (ys : List A) → slice_get (xs ++ x ∷ ys) (length xs) ≡ Some x
  at_end [] x ys = refl
  at_end (z ∷ xs) x ys = at_end xs x ys

  -- one more at the end
  pub at_more : (xs : List A) (x y : A) (k : ℕ) → slice_get (xs ++ x ∷ []) k ≡ Some y → ((k ≡ length xs) × (y ≡ x)) ⊎ (slice_get xs k ≡ Some y)
  at_more [] x y zero is = inl (refl, sym (some_same x y is))
  at_more [] x y (suc k) is = absurd (none_is_not y is)
  at_more (z ∷ xs) x y zero is = inr is
  at_more (z ∷ xs) x y (suc k) is = by (at_more xs x y k is)
    where
      by : ((k ≡ length xs) × (y ≡ x)) ⊎ (slice_get xs k ≡ Some y) → ((suc k ≡ suc (length xs)) × (y ≡ x)) ⊎ (slice_get xs k ≡ Some y)
      by (inl p) = inl (ap suc p.0, p.1)
      by (inr there) = inr there

  pub some_at : (xs : List A) (k : ℕ) → k < length xs → (x : A) × (slice_get xs k ≡ Some x)
  some_at [] k less = absurd (omega (arith, less))
  some_at (y ∷ ys) zero less = (y, refl)
  some_at (y ∷ ys) (suc k) less = some_at ys k (omega (arith, less))

  pub one_longer : (xs : List A) (x : A) → length (xs ++ x ∷ []) ≡ suc (length xs)
  one_longer [] x = refl
  one_longer (z ∷ xs) x = ap suc (one_longer xs x)

  pub no_shorter : (xs ys : List A) → length xs ≤ length (xs ++ ys)
  no_shorter [] ys = omega arith
  no_shorter (z ∷ xs) ys = let le = no_shorter xs ys in omega (arith, le)

  -- so many items from a place on stay, where they were there
  pub part_kept : (xs ys : List A) (first count : ℕ) → first + count ≤ length xs → take count (drop first (xs ++ ys)) ≡ take count (drop first xs)
  part_kept xs ys first zero le = refl
  part_kept [] ys first (suc count) le = absurd (omega (arith, le))
  part_kept (z ∷ xs) ys zero (suc count) le = ap (λ zs. z ∷ zs) (part_kept xs ys 0 count (omega (arith, le)))
  part_kept (z ∷ xs) ys (suc first) (suc count) le = part_kept xs ys first (suc count) (omega (arith, le))

  pub part_at_end : (xs ys : List A) (first count : ℕ) → first ≡ length xs → count ≡ length ys → take count (drop first (xs ++ ys)) ≡ ys
  part_at_end xs ys first count f c = ap (λ k. take count (drop k (xs ++ ys))) f ∙ ap (λ k. take k (drop (length xs) (xs ++ ys))) c ∙ skip xs
    where
      all : (ys : List A) → take (length ys) ys ≡ ys
      all [] = refl
      all (y ∷ ys) = ap (λ zs. y ∷ zs) (all ys)

      skip : (xs : List A) → take (length ys) (drop (length xs) (xs ++ ys)) ≡ ys
      skip [] = all ys
      skip (z ∷ xs) = skip xs

-- ---- what is noted at a place

pub known_there : (list : List (Option ℕ)) (n k : ℕ) → known list n ≡ Some k → slice_get list n ≡ Some (Some k)
known_there [] n k is = cc
known_there (None ∷ xs) zero k is = cc
known_there (Some x ∷ xs) zero k is = ap Some is
known_there (x ∷ xs) (suc n) k is = known_there xs n k is

pub set_here : (list : List (Option ℕ)) (n k : ℕ) → n < length list → known (slice_set list n (Some k)) n ≡ Some k
set_here [] n k less = absurd (omega (arith, less))
set_here (x ∷ xs) zero k less = refl
set_here (x ∷ xs) (suc n) k less = set_here xs n k (omega (arith, less))

pub set_cases : (list : List (Option ℕ)) (n k m j : ℕ) → known (slice_set list n (Some k)) m ≡ Some j → ((m ≡ n) × (j ≡ k)) ⊎ (known list m ≡ Some j)
set_cases [] n k m j is = inr is
set_cases (x ∷ xs) zero k zero j is = inl (refl, sym (some_same k j is))
set_cases (x ∷ xs) zero k (suc m) j is = inr is
set_cases (x ∷ xs) (suc n) k zero j is = inr is
set_cases (x ∷ xs) (suc n) k (suc m) j is = by (set_cases xs n k m j is)
  where
    by : ((m ≡ n) × (j ≡ k)) ⊎ (known xs m ≡ Some j) → ((suc m ≡ suc n) × (j ≡ k)) ⊎ (known xs m ≡ Some j)
    by (inl p) = inl (ap suc p.0, p.1)
    by (inr there) = inr there

pub set_kept : (list : List (Option ℕ)) (n k m j : ℕ) → known list n ≡ None → known list m ≡ Some j → known (slice_set list n (Some k)) m ≡ Some j
set_kept [] n k m j free is = is
set_kept (x ∷ xs) zero k zero j free is = absurd (none_is_not j (sym free ∙ is))
set_kept (x ∷ xs) zero k (suc m) j free is = is
set_kept (x ∷ xs) (suc n) k zero j free is = is
set_kept (x ∷ xs) (suc n) k (suc m) j free is = set_kept xs n k m j free is

pub set_length : {A : Type 0} (list : List A) (n : ℕ) (x : A) → length (slice_set list n x) ≡ length list
set_length [] n x = refl
set_length (y ∷ ys) zero x = refl
set_length (y ∷ ys) (suc n) x = ap suc (set_length ys n x)
