use Rattle.std.proofs.Common.{◌≡◌, ◌+◌, ◌-◌, ℕ, None, get_or, length}
use Rattle.c_types_scopes.proofs.scope_table.make_room.Given as goal

abbrev pub invariant-loop-newest : goal.invariant-loop-newest
invariant-loop-newest l = (other : ℕ) → get_or l.newest.items other None ≡ get_or l.initial.newest.items other None

abbrev pub decreases-loop-newest : goal.decreases-loop-newest
decreases-loop-newest l = l.name + 1 - length l.newest.items
