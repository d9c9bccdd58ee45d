-- The ends of a list of numbers.
use Rattle.std.proofs.Common.{◌≡◌, ◌<◌, ◌-◌, ◌≤ℤ◌, ◌||◌, ℤ, Bool, true, false, int_le, List, [], ◌∷◌, length, slice_index_or, refl, arith}
use Rattle.std.specs.List.{list_any}
use Rattle.std.proofs.lemmas.Int.{ints}
use Rattle.cc_base.specs.RowLaws.{by_test}
use Rattle.std.proofs.lemmas.List.Folds.{list_any_at}

-- where the last number is at least x, some number is
pub last_is_above : (list : List ℤ) (x d : ℤ) → 0 < length list → int_le x (slice_index_or list (length list - 1) d) ≡ true → list_any (λ n. int_le x n) list ≡ true
last_is_above list x d some h = list_any_at (λ n. int_le x n) list (length list - 1) d (omega arith) h

or_right : (a b : Bool) → b ≡ true → (a || b) ≡ true
or_right true b h = refl
or_right false b h = h

-- what is at least some number of the list, a greater number is too
pub any_below : (list : List ℤ) (a c : ℤ) → a ≤ℤ c → list_any (λ m. int_le m a) list ≡ true → list_any (λ m. int_le m c) list ≡ true
any_below [] a c h e = cc
any_below (x ∷ xs) a c h e =
    by_test (int_le x a)
    (λ (t : int_le x a ≡ true). let u : int_le x c ≡ true = grind (arith, ints) in rw u refl)
    (λ (f : int_le x a ≡ false). let rest : list_any (λ m. int_le m a) xs ≡ true = rw f at e in or_right (int_le x c) _ (any_below xs a c h rest))

-- what is at most some number of the list, a lesser number is too
pub any_above : (list : List ℤ) (b d : ℤ) → d ≤ℤ b → list_any (λ m. int_le b m) list ≡ true → list_any (λ m. int_le d m) list ≡ true
any_above [] b d h e = cc
any_above (x ∷ xs) b d h e =
    by_test (int_le b x)
    (λ (t : int_le b x ≡ true). let u : int_le d x ≡ true = grind (arith, ints) in rw u refl)
    (λ (f : int_le b x ≡ false). let rest : list_any (λ m. int_le b m) xs ≡ true = rw f at e in or_right (int_le d x) _ (any_above xs b d h rest))
