-- The entry of a unit (5.1.2.2.1 as narrowed by the profile), and what is refused once all of the unit is typed.
use Rattle.std.specs.Prelude.{ℕ, ◌+◌, Bool, true, false, not, cond, nat_eq, nat_lt, List, [], ◌∷◌, Option, Some, None, Ok}
use Rattle.std.specs.Cmp.Lexicographic.{pointwise}
use Rattle.cc_base.specs.declared.diagnostics.Place.{Place}
use Rattle.cc_base.specs.declared.refusals.Refusal.TheVariants as refusal
use Rattle.c_layout.specs.Types.{Ty, Int, Pointer, Array, Struct, Void}
use Rattle.c_layout.specs.CheckedUnits.{LocalView, FunctionView}
use Rattle.c_types_rules.specs.CallCycles.CallCycles.{first_cycle}
use Rattle.c_types_rules.specs.declared.call_cycles.call_graph.Call.{Call}
use Rattle.c_types_scopes.specs.Names.{narrowed}
use Rattle.c_types_scopes.specs.Refusals.{Ruled, refused}

abbrev pub is_integer : Ty → Bool
is_integer (Int k) = true
is_integer (Pointer t) = false
is_integer (Array t count) = false
is_integer (Struct number) = false
is_integer Void = false

-- whether an object is a parameter, since its number is below their count, and of another type
abbrev pub is_other_parameter : ℕ → ℕ → LocalView → Bool
is_other_parameter at count l = cond (nat_lt at count) (not (is_integer l.ctype)) false

-- whether of the objects from a number on each parameter has an integer type
unfoldable pub integers_from : ℕ → ℕ → List LocalView → Bool
integers_from at count [] = true
integers_from at count (l ∷ ls) = cond (is_other_parameter at count l) false (integers_from (at + 1) count ls)

-- whether each parameter of a function has an integer type
abbrev pub takes_integers : FunctionView → Bool
takes_integers f = integers_from 0 f.parameters f.locals

abbrev pub has_name : FunctionView → List ℕ → Bool
has_name f name = pointwise nat_eq f.name name

abbrev pub entry_if : FunctionView → ℕ → Option ℕ
entry_if f at = cond (takes_integers f) (narrowed (Some at)) None

unfoldable pub entry_from : ℕ → List FunctionView → List ℕ → Option ℕ
entry_from at [] name = None
entry_from at (f ∷ fs) name = cond (has_name f name) (entry_if f at) (entry_from (at + 1) fs name)

-- the number of the entry: the first function of its name, where that takes integers alone
abbrev pub entry_number : List FunctionView → List ℕ → Option ℕ
entry_number functions name = entry_from 0 functions name

-- the unit's first place
abbrev pub first_place : Place
first_place = record { file = 0; line = 1; col = 1 }

abbrev pub judged_calls : ℕ → Option Place → Ruled ℕ
judged_calls entry None = Ok entry
judged_calls entry (Some at) = refused at refusal.Recursion

abbrev pub judged_entry : List Call → Option ℕ → Ruled ℕ
judged_entry calls None = refused first_place refusal.NoEntry
judged_entry calls (Some entry) = judged_calls entry (first_cycle calls)

-- the entry of a unit with some functions and some calls, or else that there is none, or the first call that closes a
-- cycle with those before it
abbrev pub judged : List FunctionView → List ℕ → List Call → Ruled ℕ
judged functions name calls = judged_entry calls (entry_number functions name)
