use Rattle.std.proofs.Common.{◌≡◌, map, drop}
use Rattle.c_layout.specs.DeclarationTrees.{external_tree}
use Rattle.c_layout.specs.CheckedUnits.{function_view}
use Rattle.c_types_scopes.specs.States.{state}
use Rattle.c_types.specs.Units.UnitChecks.{externals}
use Rattle.c_types.proofs.units.unit_checks.externals_of.Given as goal

abbrev pub invariant-loop-next : goal.invariant-loop-next
invariant-loop-next l = externals (state l.initial.cx) (map function_view l.initial.functions.items) (map external_tree l.externals) ≡ externals (state l.cx) (map function_view l.functions.items) (map external_tree (drop l.next-index l.externals))
