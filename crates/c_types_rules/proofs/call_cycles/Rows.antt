-- Worked rows: functions are numbers, and a call stands at the column of its name.
use Rattle.std.specs.Prelude.{◌≡◌, refl, ℕ, [], ◌∷◌, Some, None, true, false}
use Rattle.cc_base.specs.declared.diagnostics.Place.{Place}
use Rattle.c_types_rules.specs.declared.call_cycles.call_graph.Call.{Call}
use Rattle.c_types_rules.specs.CallCycles.CallCycles.{leads, first_closing, first_cycle}

at_column : ℕ → Place
at_column n = record { file = 0; line = 1; col = n }

call : ℕ → ℕ → ℕ → Call
call from to n = record { caller = from; callee = to; place = at_column n }

-- a function that calls itself
own_call : first_cycle (call 0 0 5 ∷ []) ≡ Some (at_column 5)
unfolding leads first_closing call at_column
own_call = refl

-- one function called twice is no cycle
twice : first_cycle (call 0 1 1 ∷ call 0 1 2 ∷ []) ≡ None
unfolding leads first_closing call at_column
twice = refl

-- two functions that call each other: the second call closes the cycle
both : first_cycle (call 1 0 1 ∷ call 0 1 2 ∷ call 0 1 3 ∷ []) ≡ Some (at_column 2)
unfolding leads first_closing call at_column
both = refl

-- the order of the calls decides, not that of the functions
three : first_cycle (call 2 0 1 ∷ call 0 1 2 ∷ call 3 0 3 ∷ call 1 2 4 ∷ call 0 3 5 ∷ []) ≡ Some (at_column 4)
unfolding leads first_closing call at_column
three = refl

-- two ways to one function are no cycle
diamond : first_cycle (call 0 1 1 ∷ call 0 2 2 ∷ call 1 3 3 ∷ call 2 3 4 ∷ []) ≡ None
unfolding leads first_closing call at_column
diamond = refl

-- calls lead on, and not back
on : leads (call 0 1 1 ∷ call 1 2 2 ∷ []) 0 2 ≡ true
unfolding leads call at_column
on = refl

back : leads (call 0 1 1 ∷ call 1 2 2 ∷ []) 2 0 ≡ false
unfolding leads call at_column
back = refl
