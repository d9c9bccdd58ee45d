use Rattle.std.proofs.Common.{◌≡◌, map, drop}
use Rattle.c_layout.specs.DeclarationTrees.{init_declarator_view}
use Rattle.c_types_scopes.specs.States.{state}
use Rattle.c_types_declarations.specs.Specifiers.{specified_view}
use Rattle.c_types_statement_rules.specs.Objects.LocalObjects.{parts_view}
use Rattle.c_types_statements.specs.LocalDeclarations.{declarators}
use Rattle.c_types_statements.proofs.local_declarations.declarators_of.Given as goal

abbrev pub invariant-loop-declarator : goal.invariant-loop-declarator
invariant-loop-declarator l = declarators (state l.initial.cx) (specified_view l.base) l.place (map init_declarator_view l.declarators) (parts_view l.initial.parts) ≡ declarators (state l.cx) (specified_view l.base) l.place (map init_declarator_view (drop l.declarator-index l.declarators)) (parts_view l.parts)
