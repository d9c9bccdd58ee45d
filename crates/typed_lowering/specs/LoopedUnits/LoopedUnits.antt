-- Units that are plain but for loops and jumps back: of the library they call only exit, abort, putchar and the functions of
-- <ctype.h>; the entry has no parameter, and no object or literal is or holds an array of more than 64 elements.
use Rattle.std.specs.Prelude.{ℕ, zero, suc, Bool, false, ◌&&◌, length, slice_get, Option, Some, None}
use Rattle.std.specs.List.{list_all}
use Rattle.c_layout.specs.CheckedTrees.{statement_trees}
use Rattle.c_layout.specs.CheckedUnits.{FunctionView, UnitView}
use Rattle.typed_programs.specs.PlainUnits.PlainUnits.{takes_nothing}
use Rattle.typed_programs.specs.PlainUnits.ShortArrays.{has_short_arrays, is_short_local, has_short_objects}
use Rattle.typed_lowering.specs.LoopedUnits.LoopedStatements.{are_looped_statements}

abbrev pub is_looped_function : UnitView → (ℕ → Bool) → FunctionView → Bool
is_looped_function u calls f = (list_all (is_short_local u.structs) f.locals && has_short_arrays u.structs f.returns) && are_looped_statements calls (statement_trees f.body)

abbrev pub is_looped_if_there : UnitView → (ℕ → Bool) → Option FunctionView → Bool
is_looped_if_there u calls None = false
is_looped_if_there u calls (Some f) = is_looped_function u calls f

-- a function and all that it reaches by calls that nest at most so deep
abbrev pub is_looped_from : UnitView → ℕ → ℕ → Bool
is_looped_from u zero n = false
is_looped_from u (suc depth) n = is_looped_if_there u (is_looped_from u depth) (slice_get u.functions n)

abbrev pub is_looped_unit : UnitView → Bool
is_looped_unit u = takes_nothing (slice_get u.functions u.entry) && (has_short_objects u && is_looped_from u (length u.functions) u.entry)
