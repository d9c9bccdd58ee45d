-- Plain units: in the functions that the entry reaches by calls no loop and no jump back, and no library function
-- but exit, abort, putchar and those of <ctype.h>; the entry has no parameter, and no object or literal is or holds
-- an array of more than 64 elements.
use Rattle.std.specs.Prelude.{ℕ, zero, suc, ◌==◌, Bool, false, ◌&&◌, length, slice_get, Option, Some, None}
use Rattle.std.specs.List.{list_all}
use Rattle.c_layout.specs.CheckedTrees.{statement_trees}
use Rattle.c_layout.specs.CheckedUnits.{FunctionView, UnitView}
use Rattle.typed_programs.specs.PlainUnits.ShortArrays.{has_short_arrays, is_short_local, has_short_objects}
use Rattle.typed_programs.specs.PlainUnits.PlainStatements.{are_plain_statements}

abbrev pub no_label : ℕ → Bool
no_label l = false

-- a function whose calls are of functions that pass a test; its result is an object too
abbrev pub is_plain_function : UnitView → (ℕ → Bool) → FunctionView → Bool
is_plain_function u calls f = (list_all (is_short_local u.structs) f.locals && has_short_arrays u.structs f.returns) && are_plain_statements calls no_label false (statement_trees f.body)

abbrev pub is_plain_if_there : UnitView → (ℕ → Bool) → Option FunctionView → Bool
is_plain_if_there u calls None = false
is_plain_if_there u calls (Some f) = is_plain_function u calls f

-- a function and all that it reaches by calls that nest at most so deep
abbrev pub is_plain_from : UnitView → ℕ → ℕ → Bool
is_plain_from u zero n = false
is_plain_from u (suc depth) n = is_plain_if_there u (is_plain_from u depth) (slice_get u.functions n)

abbrev pub takes_nothing : Option FunctionView → Bool
takes_nothing None = false
takes_nothing (Some f) = f.parameters == 0

-- no function calls itself, so calls nest at most as deep as there are functions
abbrev pub is_plain_unit : UnitView → Bool
is_plain_unit u = takes_nothing (slice_get u.functions u.entry) && (has_short_objects u && is_plain_from u (length u.functions) u.entry)
