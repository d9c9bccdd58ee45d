-- Whether the functions of a unit are such as typing makes them.
use Rattle.std.specs.Prelude.{Bool, false, ◌&&◌}
use Rattle.std.specs.List.{list_all}
use Rattle.c_layout.specs.CheckedTrees.{statement_trees}
use Rattle.c_layout.specs.CheckedUnits.{FunctionView, UnitView}
use Rattle.lower_preconditions.specs.Units.LabelNumbers.{is_numbered}
use Rattle.lower_preconditions.specs.Units.ScopeObjects.{has_own_objects}
use Rattle.lower_preconditions.specs.Units.RegularStatements.{are_regular_statements}

abbrev pub is_regular_function : UnitView → FunctionView → Bool
is_regular_function u f = is_numbered f && (has_own_objects f && are_regular_statements u f false false (statement_trees f.body))

abbrev pub is_regular_unit : UnitView → Bool
is_regular_unit u = list_all (is_regular_function u) u.functions
