-- A look at a unit whose labels, names and jumps were looked at: whether its functions and objects are marked.
use Rattle.std.specs.Prelude.{ℕ, zero, suc, ◌+◌, Bool, true, ◌&&◌, ◌||◌, nat_le, length, is_some}
use Rattle.std.specs.List.{list_all}
use Rattle.c_layout.specs.Types.{Ty}
use Rattle.c_layout.specs.CheckedTrees.{statement_trees}
use Rattle.c_layout.specs.CheckedUnits.{FunctionView, LocalView, StaticView, StaticStoreView, SetValue, SetText, LiteralView, UnitView}
use Rattle.c_layout.specs.declared.checked_tree.checked_units.StaticValue.{StaticValue}
use Rattle.c_layout.specs.declared.checked_tree.checked_units.StaticValue.TheVariants as static_value
use Rattle.lower_functions.specs.Functions.Functions.{local_type}
use Rattle.lower_templates.specs.Worklist.TermKinds.{is_void}
use Rattle.lower_preconditions.specs.Units.RegularUnits.{is_regular_unit}
use Rattle.memory_model.specs.Effects.LibraryChecks.{most_size}
use Rattle.memory_model.specs.Effects.UnitStarts.{entry_parameters}
use Rattle.semantics.specs.SourceMachine.Operations.{size_of}
use Rattle.semantics.specs.SourceMachine.SourceStates.{function_at}
use Rattle.source_preservation.specs.Checks.LookedTypes.{is_kind, is_scalar_type, is_such}
use Rattle.c_layout.specs.ByteTexts.{are_bytes}
use Rattle.source_preservation.specs.UnitChecks.LookedStatements.{are_well_typed_statements}

-- ---- functions

-- a type of a size that memory may have
abbrev pub is_small : UnitView → Ty → Bool
is_small u t = nat_le (size_of u t) (most_size u.model)

abbrev pub is_small_local : UnitView → LocalView → Bool
is_small_local u l = is_small u l.ctype

-- so many parameters
abbrev pub are_scalars : UnitView → FunctionView → ℕ → Bool
are_scalars u f zero = true
are_scalars u f (suc n) = is_scalar_type u (local_type f n) && are_scalars u f n

abbrev pub is_well_typed_function : UnitView → FunctionView → Bool
is_well_typed_function u f = are_well_typed_statements u f (statement_trees f.body) && (are_scalars u f f.parameters && ((is_void f.returns || is_scalar_type u f.returns) && (is_small u f.returns && list_all (is_small_local u) f.locals)))

-- ---- objects of static storage

abbrev pub is_proper_value : UnitView → StaticValue → Bool
is_proper_value u (static_value.Address base offset lo hi) = nat_le offset (most_size u.model) && nat_le hi (most_size u.model)
is_proper_value u v = true

abbrev pub is_proper_store : UnitView → StaticStoreView → Bool
is_proper_store u (SetValue offset v) = is_proper_value u v
is_proper_store u (SetText offset room text) = are_bytes text

abbrev pub is_well_typed_static : UnitView → StaticView → Bool
is_well_typed_static u o = is_small u o.ctype && list_all (is_proper_store u) o.stores

abbrev pub is_well_typed_literal : UnitView → LiteralView → Bool
is_well_typed_literal u l = are_bytes l.bytes && nat_le (length l.bytes + 1) (most_size u.model)

-- ---- units

abbrev pub is_entered : UnitView → LocalView → Bool
is_entered u l = is_such (λ kind. is_kind u.model kind) l.ctype

abbrev pub are_well_typed_objects : UnitView → Bool
are_well_typed_objects u = list_all (is_well_typed_static u) u.objects && list_all (is_well_typed_literal u) u.literals

abbrev pub has_entry : UnitView → Bool
has_entry u = is_some (function_at u u.entry) && list_all (is_entered u) (entry_parameters u)

abbrev pub is_well_typed : UnitView → Bool
is_well_typed u = is_regular_unit u && (list_all (is_well_typed_function u) u.functions && (are_well_typed_objects u && has_entry u))
