-- Going along a list, or through numbers, with a state.
use Rattle.std.specs.Prelude.{ℕ, zero, suc, ◌+◌, List, [], ◌∷◌}

-- the state after each item in turn; the first item has the number `at`
abbrev pub walk : {K S : Type 0} → (K → ℕ → S → S) → ℕ → List K → S → S
walk f at [] s = s
walk f at (k ∷ ks) s = walk f (at + 1) ks (f k at s)

-- the state after each number below `count` in turn
abbrev pub turns : {S : Type 0} → (ℕ → S → S) → ℕ → S → S
turns f zero s = s
turns f (suc count) s = f count (turns f count s)
