-- The numbers of least absolute value of an ascending list, and which numbers are thresholds.
use Rattle.std.specs.Prelude.{◌≡◌, ℕ, ℤ, pos, ◌-◌, ◌-ℤ◌, int_lt, Bool, true, cond, ◌||◌, zero, suc, List, [], ◌∷◌, ◌++◌, length, take, drop, slice_index_or, Contains}
use Rattle.std.specs.Ordering.{int_eq}
use Rattle.std.specs.List.{list_any}
use Rattle.cc_base.specs.Ascending.{is_ascending}

-- whether a number is in a list
abbrev pub is_among : List ℤ → ℤ → Bool
is_among list n = list_any (λ m. int_eq m n) list

-- the numbers of the second list that are not in the first one
abbrev pub not_among : List ℤ → List ℤ → List ℤ
not_among list [] = []
not_among list (n ∷ ns) = cond (is_among list n) [] (n ∷ []) ++ not_among list ns

-- of the ends of an ascending list, whether the first one has the greater absolute value
abbrev pub is_first_farther : ℤ → ℤ → Bool
is_first_farther first last = int_lt last (pos 0) || int_lt first (pos 0 -ℤ last)

-- an ascending list without the end of greater absolute value; of two that tie, the last one goes
abbrev pub without_farther : List ℤ → List ℤ
without_farther list = cond (is_first_farther (slice_index_or list 0 (pos 0)) (slice_index_or list (length list - 1) (pos 0))) (drop 1 list) (take (length list - 1) list)

-- an ascending list after so many such steps
abbrev pub left_after : ℕ → List ℤ → List ℤ
left_after zero list = list
left_after (suc n) list = left_after n (without_farther list)

abbrev pub most_others : ℕ
most_others = 256

-- the 256 numbers of least absolute value of an ascending list, or all of a shorter one
abbrev pub nearest_of : List ℤ → List ℤ
nearest_of list = left_after (length list - most_others) list

-- the limits, and of the other numbers those of least absolute value
pub record AreThresholds (limits numbers result : List ℤ) : Type 0 where
  pub others : List ℤ
  pub ascending : is_ascending others ≡ true
  pub all : (n : ℤ) → Contains (not_among limits numbers) n → Contains others n
  pub no_more : (n : ℤ) → Contains others n → Contains (not_among limits numbers) n
  pub kept : (n : ℤ) → Contains (limits ++ nearest_of others) n → Contains result n
  pub made : (n : ℤ) → Contains result n → Contains (limits ++ nearest_of others) n
