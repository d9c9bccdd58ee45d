use Rattle.std.proofs.Common.{◌≡◌, map, drop}
use Rattle.c_layout.specs.DeclarationTrees.{init_declarator_view}
use Rattle.c_types_scopes.specs.States.{state}
use Rattle.c_types.specs.Units.UnitDefinitions.{with_declarators}
use Rattle.c_types.proofs.units.unit_definitions.add_declarators.Given as goal

abbrev pub invariant-loop-declarator : goal.invariant-loop-declarator
invariant-loop-declarator l = with_declarators l.defines (map init_declarator_view (drop l.declarator-index l.declarators)) (state l.cx) ≡ with_declarators l.defines (map init_declarator_view l.declarators) (state l.initial.cx)
