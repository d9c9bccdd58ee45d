-- What is among lists of objects.
use Rattle.std.proofs.Common.{◌≡◌, ◌⊎◌, ℕ, ◌==◌, Bool, true, false, cond, ◌||◌, List, [], ◌∷◌, ◌++◌, inl, inr, refl, ap, sym, ◌∙◌}
use Rattle.std.proofs.lemmas.Bool.{eqb-true}
use Rattle.semantics.specs.SourceMachine.Scopes.{is_in, all_of, without, inwards}
use Rattle.source_items.specs.Returns.EndedObjects.{AreAmong}
use Rattle.source_items.proofs.liveness.Members.{apart, either, left_or, right_or, is_in-append}

pub of_both : (n : ℕ) (xs ys : List ℕ) → is_in n (xs ++ ys) ≡ true → (is_in n xs ≡ true) ⊎ (is_in n ys ≡ true)
of_both n xs ys e = either (is_in n xs) (is_in n ys) (sym (is_in-append n xs ys) ∙ e)

pub among_left : (xs ys : List ℕ) → AreAmong xs (xs ++ ys)
among_left xs ys n e = is_in-append n xs ys ∙ left_or (is_in n xs) (is_in n ys) e

pub among_right : (xs ys : List ℕ) → AreAmong ys (xs ++ ys)
among_right xs ys n e = is_in-append n xs ys ∙ right_or (is_in n xs) (is_in n ys) e

pub both_among : (xs ys zs : List ℕ) → AreAmong xs zs → AreAmong ys zs → AreAmong (xs ++ ys) zs
both_among xs ys zs a b n e = by (of_both n xs ys e)
  where
    by : (is_in n xs ≡ true) ⊎ (is_in n ys ≡ true) → is_in n zs ≡ true
    by (inl l) = a n l
    by (inr r) = b n r

pub among_more : (xs ys zs : List ℕ) → AreAmong ys zs → AreAmong ys (xs ++ zs)
among_more xs ys zs a n e = among_right xs zs n (a n e)

pub each_among : (xs ys zs : List ℕ) → AreAmong ys zs → AreAmong (xs ++ ys) (xs ++ zs)
each_among xs ys zs a = both_among xs ys (xs ++ zs) (among_left xs zs) (among_more xs ys zs a)

pub none_among : (xs : List ℕ) → AreAmong [] xs
none_among xs n e = absurd (apart e)

pub all_among : (xs : List ℕ) → AreAmong xs xs
all_among xs n e = e

pub among_through : (xs ys zs : List ℕ) → AreAmong xs ys → AreAmong ys zs → AreAmong xs zs
among_through xs ys zs a b n e = b n (a n e)

-- ---- what is left out

left_out : (known xs : List ℕ) (n x : ℕ) → AreAmong (without known xs) xs → (b : Bool) → is_in n (cond b (without known xs) (x ∷ without known xs)) ≡ true → is_in n (x ∷ xs) ≡ true
left_out known xs n x within true e = right_or (n == x) (is_in n xs) (within n e)
left_out known xs n x within false e = by (n == x) e
  where
    by : (c : Bool) → (c || is_in n (without known xs)) ≡ true → (c || is_in n xs) ≡ true
    by true e = refl
    by false e = within n e

pub without_among : (known xs : List ℕ) → AreAmong (without known xs) xs
without_among known [] n e = e
without_among known (x ∷ xs) n e = left_out known xs n x (without_among known xs) (is_in x known) e

-- what is in a list is known, or in what is not known of it
pub known_or_not : (known xs : List ℕ) → AreAmong xs (without known xs ++ known)
known_or_not known [] n e = none_among known n e
known_or_not known (x ∷ xs) n e = by (is_in x known) refl (either (n == x) (is_in n xs) e) (known_or_not known xs n)
  where
    same : (n == x) ≡ true → n ≡ x
    same e = eqb-true n x e

    here : is_in x known ≡ true → (n == x) ≡ true → is_in n known ≡ true
    here there is = ap (λ m. is_in m known) (same is) ∙ there

    by : (b : Bool) → is_in x known ≡ b → ((n == x) ≡ true) ⊎ (is_in n xs ≡ true) → (is_in n xs ≡ true → is_in n (without known xs ++ known) ≡ true) → is_in n (cond b (without known xs) (x ∷ without known xs) ++ known) ≡ true
    by true there (inl is) later = among_right (without known xs) known n (here there is)
    by true there (inr is) later = later is
    by false new (inl is) later = left_or (n == x) (is_in n (without known xs ++ known)) is
    by false new (inr is) later = right_or (n == x) (is_in n (without known xs ++ known)) (later is)

pub inwards_among : (scopes : List (List ℕ)) → AreAmong (inwards scopes) (all_of scopes)
inwards_among [] = none_among []
inwards_among (scope ∷ scopes) = both_among (inwards scopes) scope (scope ++ all_of scopes) (among_more scope (inwards scopes) (all_of scopes) (inwards_among scopes)) (among_left scope (all_of scopes))
