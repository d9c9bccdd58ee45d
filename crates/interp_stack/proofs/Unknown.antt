-- Objects that are known or not, in lists one behind the other.
use Rattle.std.proofs.Common.{◌≡◌, ℕ, Bool, true, false, ◌||◌, ◌==◌, cond, List, [], ◌∷◌, ◌++◌, refl, ap, ◌∙◌}
use Rattle.semantics.specs.SourceMachine.Scopes.{is_in, without}

or_again : (a b c : Bool) → (a || (b || c)) ≡ ((a || b) || c)
or_again true b c = refl
or_again false b c = refl

pub is_in-append : (x : ℕ) (xs ys : List ℕ) → is_in x (xs ++ ys) ≡ (is_in x xs || is_in x ys)
is_in-append x [] ys = refl
is_in-append x (y ∷ xs) ys = ap (λ b. (x == y) || b) (is_in-append x xs ys) ∙ or_again (x == y) (is_in x xs) (is_in x ys)

one_more : (b : Bool) (x : ℕ) (xs ys : List ℕ) → cond b (xs ++ ys) (x ∷ (xs ++ ys)) ≡ cond b xs (x ∷ xs) ++ ys
one_more true x xs ys = refl
one_more false x xs ys = refl

pub without-append : (known xs ys : List ℕ) → without known (xs ++ ys) ≡ without known xs ++ without known ys
without-append known [] ys = refl
without-append known (x ∷ xs) ys = ap (λ l. cond (is_in x known) l (x ∷ l)) (without-append known xs ys) ∙ one_more (is_in x known) x (without known xs) (without known ys)
