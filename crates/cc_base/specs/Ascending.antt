-- Ascending lists of integers.
use Rattle.std.specs.Prelude.{ℤ, Bool, true, ◌&&◌, List, [], ◌∷◌, int_lt}

-- each number is below the next one
abbrev pub is_ascending : List ℤ → Bool
is_ascending [] = true
is_ascending (x ∷ []) = true
is_ascending (x ∷ (y ∷ s)) = int_lt x y && is_ascending (y ∷ s)
