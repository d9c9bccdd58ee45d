-- Numbers from one on, one after another.
use Rattle.std.proofs.Common.{◌≡◌, ℕ, zero, suc, ◌+◌, ◌-◌, ◌<◌, List, [], ◌∷◌, ◌++◌, ap, sym, ◌∙◌, append_assoc, arith}
use Rattle.lower_functions.specs.Functions.Functions.{numbers_from}

pub next_number : (first count : ℕ) → first < count → numbers_from first (count - first) ≡ first ∷ numbers_from (first + 1) (count - (first + 1))
next_number first count less = let e : count - first ≡ suc (count - (first + 1)) = omega arith in ap (λ k. numbers_from first k) e

pub no_number : (first : ℕ) → numbers_from first (first - first) ≡ []
no_number first = let e : first - first ≡ zero = omega arith in ap (λ k. numbers_from first k) e

-- one number more
pub counted_on : (xs ys : List ℕ) (n count : ℕ) → n < count → ys ≡ xs ++ n ∷ [] → xs ++ numbers_from n (count - n) ≡ numbers_from 0 count → ys ++ numbers_from (n + 1) (count - (n + 1)) ≡ numbers_from 0 count
counted_on xs ys n count less e before = ap (λ t. t ++ numbers_from (n + 1) (count - (n + 1))) e ∙ append_assoc xs (n ∷ []) (numbers_from (n + 1) (count - (n + 1))) ∙ ap (λ t. xs ++ t) (sym (next_number n count less)) ∙ before
