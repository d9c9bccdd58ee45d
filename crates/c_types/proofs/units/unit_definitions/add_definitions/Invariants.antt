use Rattle.std.proofs.Common.{◌≡◌, map, drop}
use Rattle.c_layout.specs.DeclarationTrees.{external_tree}
use Rattle.c_types_scopes.specs.States.{state}
use Rattle.c_types.specs.Units.UnitDefinitions.{with_externals}
use Rattle.c_types.proofs.units.unit_definitions.add_definitions.Given as goal

abbrev pub invariant-loop-external : goal.invariant-loop-external
invariant-loop-external l = with_externals (map external_tree (drop l.external-index l.externals)) (state l.cx) ≡ with_externals (map external_tree l.externals) (state l.initial.cx)
