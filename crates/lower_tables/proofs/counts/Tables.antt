-- Entries of a table.
use Rattle.std.proofs.Common.{◌≡◌, ◌<◌, ◌+◌, ◌++◌, ◌⊎◌, inl, inr, ℕ, zero, suc, List, [], ◌∷◌, Option, Some, None, length, map, replicate, refl, arith, ap, sym, ◌∙◌}
use Rattle.std.specs.List.{slice_get, slice_set}
use Rattle.std.specs.Option.{option_map}

pub set_here : {A : Type 0} (xs : List A) (n : ℕ) (x : A) → n < length xs → slice_get (slice_set xs n x) n ≡ Some x
set_here [] n x within = absurd (omega arith)
set_here (y ∷ ys) zero x within = refl
set_here (y ∷ ys) (suc n) x within = set_here ys n x (omega arith)

-- an entry after a change is the new one or an old one
pub set_cases : {A : Type 0} (xs : List A) (n m : ℕ) (x y : A) → slice_get (slice_set xs n x) m ≡ Some y → ((m ≡ n) × (y ≡ x)) ⊎ (slice_get xs m ≡ Some y)
set_cases [] n m x y is = inr is
set_cases (z ∷ zs) zero zero x y is = inl (refl, cc)
set_cases (z ∷ zs) zero (suc m) x y is = inr is
set_cases (z ∷ zs) (suc n) zero x y is = inr is
set_cases (z ∷ zs) (suc n) (suc m) x y is = one_further (set_cases zs n m x y is)
  where
    one_further : ((m ≡ n) × (y ≡ x)) ⊎ (slice_get zs m ≡ Some y) → ((suc m ≡ suc n) × (y ≡ x)) ⊎ (slice_get zs m ≡ Some y)
    one_further (inl p) = inl (ap suc p.0, p.1)
    one_further (inr is) = inr is

-- a place that is filled stays so
pub set_filled : {A : Type 0} (xs : List (Option A)) (n m : ℕ) (x y : A) → slice_get xs m ≡ Some (Some y) → (z : A) × (slice_get (slice_set xs n (Some x)) m ≡ Some (Some z))
set_filled [] n m x y is = (y, is)
set_filled (z ∷ zs) zero zero x y is = (x, refl)
set_filled (z ∷ zs) zero (suc m) x y is = (y, is)
set_filled (z ∷ zs) (suc n) zero x y is = (y, is)
set_filled (z ∷ zs) (suc n) (suc m) x y is = set_filled zs n m x y is

empty_at : {A : Type 0} (count n : ℕ) (x : A) → slice_get (replicate count (let none : Option A = None in none)) n ≡ Some (Some x) → ⊥
empty_at zero n x is = cc
empty_at (suc count) zero x is = cc
empty_at (suc count) (suc n) x is = empty_at count n x is

pub all_empty : {A : Type 0} (xs : List (Option A)) (count n : ℕ) (x : A) → xs ≡ replicate count None → slice_get xs n ≡ Some (Some x) → ⊥
all_empty xs count n x none is = empty_at count n x (sym (ap (λ ys. slice_get ys n) none) ∙ is)

map_empty : {A B : Type 0} (f : A → B) (count : ℕ) → map (option_map f) (replicate count (let none : Option A = None in none)) ≡ replicate count None
map_empty f zero = refl
map_empty f (suc count) = ap (λ xs. None ∷ xs) (map_empty f count)

-- empty places are seen as empty ones
pub seen_empty : {A B : Type 0} (f : A → B) (xs : List (Option A)) (count : ℕ) → xs ≡ replicate count None → map (option_map f) xs ≡ replicate count None
seen_empty f xs count none = ap (λ ys. map (option_map f) ys) none ∙ map_empty f count

empty_suc : {A : Type 0} (n : ℕ) → replicate (suc n) (let none : Option A = None in none) ≡ replicate n None ++ None ∷ []
empty_suc zero = refl
empty_suc (suc n) = ap (λ xs. None ∷ xs) (empty_suc n)

pub empty_more : {A : Type 0} (n : ℕ) → replicate (n + 1) (let none : Option A = None in none) ≡ replicate n None ++ None ∷ []
empty_more n = let e : n + 1 ≡ suc n = omega arith in ap (λ k. replicate k None) e ∙ empty_suc n

pub seen_at : {A B : Type 0} (f : A → B) (xs : List A) (n : ℕ) (x : A) → slice_get xs n ≡ Some x → slice_get (map f xs) n ≡ Some (f x)
seen_at f [] n x is = cc
seen_at f (y ∷ ys) zero x is = cc
seen_at f (y ∷ ys) (suc n) x is = seen_at f ys n x is
