-- Units that convert no pointer but 0, and whose pointers point to what their types say: a look that computes.
use Rattle.std.specs.Prelude.{ℕ, zero, suc, Bool, false, ◌&&◌, length, slice_get, Option, Some, None}
use Rattle.std.specs.List.{list_all}
use Rattle.c_layout.specs.CheckedTrees.{statement_trees}
use Rattle.c_layout.specs.CheckedUnits.{FunctionView, UnitView}
use Rattle.typed_lowering.specs.LoopedUnits.LoopedStatements.{are_looped_statements}
use Rattle.typed_lowering.specs.Conversions.TypedStatements.{is_typed_function}
use Rattle.typed_lowering.specs.Conversions.TypedObjects.{is_typed_object, is_own_function, is_own_object, is_own_literal}

-- a function that passes, whose types are those of the data model, and whose calls are of functions that pass a test
abbrev pub is_typed_and_calls : UnitView → (ℕ → Bool) → FunctionView → Bool
is_typed_and_calls u calls f = (is_typed_function u f && is_own_function u f) && are_looped_statements calls (statement_trees f.body)

abbrev pub is_typed_if_there : UnitView → (ℕ → Bool) → Option FunctionView → Bool
is_typed_if_there u calls None = false
is_typed_if_there u calls (Some f) = is_typed_and_calls u calls f

-- so do all that it reaches by calls that nest at most so deep
abbrev pub is_typed_from : UnitView → ℕ → ℕ → Bool
is_typed_from u zero n = false
is_typed_from u (suc depth) n = is_typed_if_there u (is_typed_from u depth) (slice_get u.functions n)

-- types of objects and literals are those of the data model
abbrev pub has_own_types : UnitView → Bool
has_own_types u = list_all (is_own_object u) u.objects && list_all (is_own_literal u) u.literals

-- the functions that the entry reaches, and the objects of static storage
abbrev pub is_typed_unit : UnitView → Bool
is_typed_unit u = is_typed_from u (length u.functions) u.entry && (list_all (is_typed_object u) u.objects && has_own_types u)
