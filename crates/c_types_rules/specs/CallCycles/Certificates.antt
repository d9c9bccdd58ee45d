-- What shows that calls make no cycle, and what shows that they make one.
use Rattle.std.specs.Prelude.{ℕ, Bool, true, false, ◌+◌, ◌==◌, cond, nat_lt, List, [], ◌∷◌, Option, Some, None, is_some, get_or, slice_get}
use Rattle.c_types_rules.specs.declared.call_cycles.call_graph.Call.{Call}

-- turns of functions: each caller's comes before that of its callee
abbrev pub turn_of : List ℕ → ℕ → ℕ
turn_of turns function = get_or turns function 0

abbrev pub is_in_turn : List ℕ → Call → Bool
is_in_turn turns c = nat_lt (turn_of turns c.caller) (turn_of turns c.callee)

unfoldable pub are_in_turn : List ℕ → List Call → Bool
are_in_turn turns [] = true
are_in_turn turns (c ∷ calls) = cond (is_in_turn turns c) (are_in_turn turns calls) false

-- for some functions a call of it is kept, by a function for which one is kept too
abbrev pub kept_for : List (Option ℕ) → ℕ → Option ℕ
kept_for callers function = get_or callers function None

abbrev pub is_kept_call : List (Option ℕ) → ℕ → Call → Bool
is_kept_call callers function c = cond (c.callee == function) (is_some (kept_for callers c.caller)) false

abbrev pub is_kept_in : List (Option ℕ) → ℕ → Option Call → Bool
is_kept_in callers function None = false
is_kept_in callers function (Some c) = is_kept_call callers function c

abbrev pub is_kept_at : List Call → List (Option ℕ) → ℕ → ℕ → Bool
is_kept_at calls callers function at = is_kept_in callers function (slice_get calls at)

abbrev pub is_held : List Call → List (Option ℕ) → ℕ → Option ℕ → Bool
is_held calls callers function None = true
is_held calls callers function (Some at) = is_kept_at calls callers function at

-- from a function on
unfoldable pub are_held : List Call → List (Option ℕ) → ℕ → List (Option ℕ) → Bool
are_held calls callers function [] = true
are_held calls callers function (kept ∷ more) = cond (is_held calls callers function kept) (are_held calls callers (function + 1) more) false

unfoldable pub any_kept : List (Option ℕ) → Bool
any_kept [] = false
any_kept (kept ∷ more) = cond (is_some kept) true (any_kept more)
