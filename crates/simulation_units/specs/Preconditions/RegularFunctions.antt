-- What the laws on runs ask of the statements of functions holds of those of a unit that was looked at.
use Rattle.std.specs.Prelude.{◌≡◌, true, [], ◌++◌}
use Rattle.c_layout.specs.CheckedTrees.{statement_trees}
use Rattle.c_layout.specs.CheckedUnits.{FunctionView, UnitView}
use Rattle.lower_preconditions.specs.Units.RegularUnits.{is_regular_function}
use Rattle.simulation_terms.specs.Scopes.SuitedStatements.{not_enclosed, AllSuitIn}

-- the statements of each regular function are such as the laws ask
abbrev pub RegularFunctionsSuit : Type 0
RegularFunctionsSuit = (u : UnitView) (f : FunctionView) → is_regular_function u f ≡ true → AllSuitIn u f not_enclosed (f.scope ++ []) (statement_trees f.body)
