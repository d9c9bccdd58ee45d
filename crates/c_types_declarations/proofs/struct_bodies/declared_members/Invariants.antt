use Rattle.std.proofs.Common.{◌≡◌, map, drop}
use Rattle.c_layout.specs.DeclarationTrees.{declarator_view}
use Rattle.c_layout.specs.StructLayouts.{partial_view}
use Rattle.c_types_scopes.specs.States.{state}
use Rattle.c_types_declarations.specs.Specifiers.{specified_view}
use Rattle.c_types_declarations.specs.StructBodies.{declared_members}
use Rattle.c_types_declarations.proofs.struct_bodies.declared_members.Given as goal

abbrev pub invariant-loop-declarator : goal.invariant-loop-declarator
invariant-loop-declarator l = declared_members l.owner (specified_view l.base) (map declarator_view l.declarators) l.fields (partial_view l.fn.layout) (state l.fn.cx) ≡ declared_members l.owner (specified_view l.base) (map declarator_view (drop l.declarator-index l.declarators)) l.count (partial_view l.layout) (state l.cx)
