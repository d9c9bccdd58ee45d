-- What is in lists of objects, and which of them have no object twice.
use Rattle.std.proofs.Common.{◌≡◌, ◌⊎◌, ℕ, ◌==◌, Bool, true, false, not, cond, ◌&&◌, ◌||◌, List, [], ◌∷◌, ◌++◌, inl, inr, refl, ap, sym, ◌∙◌}
use Rattle.std.proofs.lemmas.Bool.{eq-eqb, eqb-true}
use Rattle.semantics.specs.SourceMachine.Scopes.{is_in, all_of, without, inwards}
use Rattle.source_items.specs.Liveness.Lives.{AreDistinct}

pub apart : false ≡ true → ⊥
apart e = cc

pub other_apart : true ≡ false → ⊥
other_apart e = cc

-- ---- one of two

or_assoc : (a b c : Bool) → ((a || b) || c) ≡ (a || (b || c))
or_assoc true b c = refl
or_assoc false b c = refl

or_comm : (a b : Bool) → (a || b) ≡ (b || a)
or_comm true true = refl
or_comm true false = refl
or_comm false true = refl
or_comm false false = refl

pub either : (a b : Bool) → (a || b) ≡ true → (a ≡ true) ⊎ (b ≡ true)
either true b e = inl refl
either false b e = inr e

pub left_or : (a b : Bool) → a ≡ true → (a || b) ≡ true
left_or true b e = refl
left_or false b e = absurd (apart e)

pub right_or : (a b : Bool) → b ≡ true → (a || b) ≡ true
right_or true b e = refl
right_or false b e = e

pub neither : (a b : Bool) → a ≡ false → b ≡ false → (a || b) ≡ false
neither true b x y = absurd (other_apart x)
neither false b x y = y

not_left : (a b : Bool) → (a || b) ≡ false → a ≡ false
not_left true b e = absurd (other_apart e)
not_left false b e = refl

not_right : (a b : Bool) → (a || b) ≡ false → b ≡ false
not_right true b e = absurd (other_apart e)
not_right false b e = e

-- what cannot be true
pub is_false : (b : Bool) → (b ≡ true → ⊥) → b ≡ false
is_false true never = absurd (never refl)
is_false false never = refl

-- ---- members

pub self_in : (n : ℕ) (ns : List ℕ) → is_in n (n ∷ ns) ≡ true
self_in n ns = left_or (n == n) (is_in n ns) (eq-eqb n n refl)

pub is_in-append : (n : ℕ) (xs ys : List ℕ) → is_in n (xs ++ ys) ≡ (is_in n xs || is_in n ys)
is_in-append n [] ys = refl
is_in-append n (x ∷ xs) ys = ap (λ b. (n == x) || b) (is_in-append n xs ys) ∙ sym (or_assoc (n == x) (is_in n xs) (is_in n ys))

pub is_in-inwards : (n : ℕ) (scopes : List (List ℕ)) → is_in n (inwards scopes) ≡ is_in n (all_of scopes)
is_in-inwards n [] = refl
is_in-inwards n (scope ∷ scopes) = is_in-append n (inwards scopes) scope ∙ ap (λ b. b || is_in n scope) (is_in-inwards n scopes) ∙ or_comm (is_in n (all_of scopes)) (is_in n scope) ∙ sym (is_in-append n scope (all_of scopes))

gone : (b : Bool) → (b && false) ≡ false
gone true = refl
gone false = refl

pub is_in-without : (known : List ℕ) (n : ℕ) (xs : List ℕ) → is_in n (without known xs) ≡ (is_in n xs && not (is_in n known))
is_in-without known n [] = refl
is_in-without known n (x ∷ xs) = by (is_in x known) refl (n == x) refl (is_in-without known n xs)
  where
    here : (b : Bool) → is_in x known ≡ b → (n == x) ≡ true → is_in n known ≡ b
    here b there is = ap (λ m. is_in m known) (eqb-true n x is) ∙ there

    by : (b : Bool) → is_in x known ≡ b → (c : Bool) → (n == x) ≡ c → is_in n (without known xs) ≡ (is_in n xs && not (is_in n known)) → is_in n (cond b (without known xs) (x ∷ without known xs)) ≡ ((c || is_in n xs) && not (is_in n known))
    by true there true is later = later ∙ ap (λ k. is_in n xs && not k) (here true there is) ∙ gone (is_in n xs) ∙ sym (ap not (here true there is))
    by true there false is later = later
    by false new true is later = left_or (n == x) (is_in n (without known xs)) is ∙ sym (ap not (here false new is))
    by false new false is later = ap (λ b. b || is_in n (without known xs)) is ∙ later

-- ---- distinct objects

pub distinct_right : (xs ys : List ℕ) → AreDistinct (xs ++ ys) → AreDistinct ys
distinct_right [] ys d = d
distinct_right (x ∷ xs) ys d = distinct_right xs ys d.1

pub distinct_left : (xs ys : List ℕ) → AreDistinct (xs ++ ys) → AreDistinct xs
distinct_left [] ys d = tt
distinct_left (x ∷ xs) ys d = (not_left (is_in x xs) (is_in x ys) (sym (is_in-append x xs ys) ∙ d.0), distinct_left xs ys d.1)

pub distinct_apart : (xs ys : List ℕ) → AreDistinct (xs ++ ys) → (n : ℕ) → is_in n xs ≡ true → is_in n ys ≡ false
distinct_apart [] ys d n e = absurd (apart e)
distinct_apart (x ∷ xs) ys d n e = by (either (n == x) (is_in n xs) e) (distinct_apart xs ys d.1 n)
  where
    by : ((n == x) ≡ true) ⊎ (is_in n xs ≡ true) → (is_in n xs ≡ true → is_in n ys ≡ false) → is_in n ys ≡ false
    by (inl is) later = ap (λ m. is_in m ys) (eqb-true n x is) ∙ not_right (is_in x xs) (is_in x ys) (sym (is_in-append x xs ys) ∙ d.0)
    by (inr is) later = later is

pub distinct_both : (xs ys : List ℕ) → AreDistinct xs → AreDistinct ys → ((n : ℕ) → is_in n xs ≡ true → is_in n ys ≡ false) → AreDistinct (xs ++ ys)
distinct_both [] ys one other different = other
distinct_both (x ∷ xs) ys one other different = (
  is_in-append x xs ys ∙ neither (is_in x xs) (is_in x ys) one.0 (different x (self_in x xs)),
  distinct_both xs ys one.1 other (λ n e. different n (right_or (n == x) (is_in n xs) e)),
)

pub distinct_without : (known xs : List ℕ) → AreDistinct xs → AreDistinct (without known xs)
distinct_without known [] d = tt
distinct_without known (x ∷ xs) d = by (is_in x known) (distinct_without known xs d.1)
  where
    by : (b : Bool) → AreDistinct (without known xs) → AreDistinct (cond b (without known xs) (x ∷ without known xs))
    by true later = later
    by false later = (is_in-without known x xs ∙ ap (λ b. b && not (is_in x known)) d.0, later)

pub distinct_inwards : (scopes : List (List ℕ)) → AreDistinct (all_of scopes) → AreDistinct (inwards scopes)
distinct_inwards [] d = tt
distinct_inwards (scope ∷ scopes) d = distinct_both (inwards scopes) scope (distinct_inwards scopes (distinct_right scope (all_of scopes) d)) (distinct_left scope (all_of scopes) d) different
  where
    outside : (n : ℕ) → is_in n (all_of scopes) ≡ true → is_in n scope ≡ true → ⊥
    outside n there here = other_apart (sym there ∙ distinct_apart scope (all_of scopes) d n here)

    different : (n : ℕ) → is_in n (inwards scopes) ≡ true → is_in n scope ≡ false
    different n e = is_false (is_in n scope) (outside n (sym (is_in-inwards n scopes) ∙ e))
