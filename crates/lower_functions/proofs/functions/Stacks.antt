-- A stack whose top is its last item, seen from the top.
use Rattle.std.proofs.Common.{◌≡◌, List, [], ◌∷◌, ◌++◌, reverse, ap, sym, ◌∙◌, append_assoc}
use Rattle.std.proofs.lemmas.List.{reverse-append, reverse-reverse}

-- the last of some works comes on the stack first
pub pushed : {A : Type 0} (stack works : List A) (x : A) → (stack ++ x ∷ []) ++ reverse works ≡ stack ++ reverse (works ++ x ∷ [])
pushed stack works x = append_assoc stack (x ∷ []) (reverse works) ∙ ap (λ t. stack ++ t) (sym (reverse-append works (x ∷ [])))

-- so the first of them is on top
pub on_top : {A : Type 0} (stack works : List A) → reverse (stack ++ reverse works) ≡ works ++ reverse stack
on_top stack works = reverse-append stack (reverse works) ∙ ap (λ t. t ++ reverse stack) (reverse-reverse works)

pub top : {A : Type 0} (stack : List A) (x : A) → reverse (stack ++ x ∷ []) ≡ x ∷ reverse stack
top stack x = reverse-append stack (x ∷ [])
