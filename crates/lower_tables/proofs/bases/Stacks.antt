-- A stack whose top is its last item, seen from the top.
use Rattle.std.proofs.Common.{◌≡◌, ℕ, zero, suc, ◌+◌, List, [], ◌∷◌, ◌++◌, Some, None, drop, map, reverse, refl, arith, ap, sym, ◌∙◌, append_assoc}
use Rattle.std.specs.List.{slice_get}
use Rattle.std.proofs.lemmas.List.{reverse-append, reverse-reverse, map-append}

pub top : {A : Type 0} (stack : List A) (x : A) → reverse (stack ++ x ∷ []) ≡ x ∷ reverse stack
top stack x = reverse-append stack (x ∷ [])

-- the same, of what a stack is seen as
pub top_view : {A B : Type 0} (view : A → B) (stack : List A) (x : A) → reverse (map view (stack ++ x ∷ [])) ≡ view x ∷ reverse (map view stack)
top_view view stack x = ap reverse (map-append view stack (x ∷ [])) ∙ top (map view stack) (view x)

-- the last of some items comes on the stack first
pub pushed : {A : Type 0} (stack items : List A) (x : A) → (stack ++ x ∷ []) ++ reverse items ≡ stack ++ reverse (items ++ x ∷ [])
pushed stack items x = append_assoc stack (x ∷ []) (reverse items) ∙ ap (λ t. stack ++ t) (sym (reverse-append items (x ∷ [])))

-- so the first of them is on top
pub on_top : {A : Type 0} (stack items : List A) → reverse (stack ++ reverse items) ≡ items ++ reverse stack
on_top stack items = reverse-append stack (reverse items) ∙ ap (λ t. t ++ reverse stack) (reverse-reverse items)

rest_suc : {A B : Type 0} (view : A → B) (xs : List A) (n : ℕ) (x : A) → slice_get xs n ≡ Some x → map view (drop n xs) ≡ view x ∷ map view (drop (suc n) xs)
rest_suc view [] n x is = cc
rest_suc view (y ∷ ys) zero x is = cc
rest_suc view (y ∷ ys) (suc n) x is = rest_suc view ys n x is

-- what a list has from an item on
pub rest_at : {A B : Type 0} (view : A → B) (xs : List A) (n : ℕ) (x : A) → slice_get xs n ≡ Some x → map view (drop n xs) ≡ view x ∷ map view (drop (n + 1) xs)
rest_at view xs n x is = let e : suc n ≡ n + 1 = omega arith in rest_suc view xs n x is ∙ ap (λ k. view x ∷ map view (drop k xs)) e

pub rest_none : {A B : Type 0} (view : A → B) (xs : List A) (n : ℕ) → slice_get xs n ≡ None → map view (drop n xs) ≡ []
rest_none view [] zero is = refl
rest_none view [] (suc n) is = refl
rest_none view (y ∷ ys) zero is = cc
rest_none view (y ∷ ys) (suc n) is = rest_none view ys n is
