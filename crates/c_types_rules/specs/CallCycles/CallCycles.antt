-- Cycles of calls. A call closes a cycle where the calls before it lead from its callee back to its caller.
use Rattle.std.specs.Prelude.{ℕ, Bool, ◌==◌, ◌&&◌, ◌||◌, cond, List, [], ◌∷◌, Option, Some, None, is_some}
use Rattle.cc_base.specs.declared.diagnostics.Place.{Place}
use Rattle.c_types_rules.specs.declared.call_cycles.call_graph.Call.{Call}

-- whether calls lead from a function to a function: with one call more they do where they did without it, or by
-- the way to its caller and the way on from its callee
unfoldable pub leads : List Call → ℕ → ℕ → Bool
leads [] from to = from == to
leads (c ∷ calls) from to = leads calls from to || (leads calls from c.caller && leads calls c.callee to)

abbrev pub closes : List Call → Call → Bool
closes before c = leads before c.callee c.caller

-- the place of the first call that closes a cycle, behind some calls, the newest of which stands first
unfoldable pub first_closing : List Call → List Call → Option Place
first_closing before [] = None
first_closing before (c ∷ calls) = cond (closes before c) (Some c.place) (first_closing (c ∷ before) calls)

-- the place of the first call that closes a cycle with the calls before it
abbrev pub first_cycle : List Call → Option Place
first_cycle calls = first_closing [] calls

abbrev pub is_cyclic : List Call → Bool
is_cyclic calls = is_some (first_cycle calls)
