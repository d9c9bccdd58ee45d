use Rattle.std.proofs.Common.{◌≡◌, drop, map}
use Rattle.std.specs.List.{list_all}
use Rattle.c_layout.specs.CheckedUnits.{function_view, unit_view}
use Rattle.lower_preconditions.specs.Units.RegularUnits.{is_regular_function}
use Rattle.lower_preconditions.proofs.units.regular_units.are_regular_functions.Given as goal

abbrev pub invariant-loop-at : goal.invariant-loop-at
invariant-loop-at l = list_all (is_regular_function (unit_view l.unit)) (map function_view (drop l.at l.functions)) ≡ list_all (is_regular_function (unit_view l.unit)) (map function_view l.functions)
