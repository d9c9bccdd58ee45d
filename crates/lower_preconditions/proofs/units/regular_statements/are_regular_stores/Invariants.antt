use Rattle.std.proofs.Common.{◌≡◌, drop, map}
use Rattle.std.specs.List.{list_all}
use Rattle.c_layout.specs.CheckedTrees.{store_tree}
use Rattle.c_layout.specs.CheckedUnits.{function_view, unit_view}
use Rattle.lower_preconditions.specs.Units.RegularStatements.{is_regular_store}
use Rattle.lower_preconditions.proofs.units.regular_statements.are_regular_stores.Given as goal

abbrev pub invariant-loop-at : goal.invariant-loop-at
invariant-loop-at l = list_all (is_regular_store (unit_view l.unit) (function_view l.function)) (map store_tree (drop l.at l.stores)) ≡ list_all (is_regular_store (unit_view l.unit) (function_view l.function)) (map store_tree l.stores)
