use Rattle.std.proofs.Common.{◌≡◌, map, drop}
use Rattle.c_layout.specs.DeclarationTrees.{init_declarator_view}
use Rattle.c_types_scopes.specs.States.{state}
use Rattle.c_types_declarations.specs.Specifiers.{specified_view}
use Rattle.c_types.specs.FileScope.ExternalDeclarations.{declarators}
use Rattle.c_types.proofs.file_scope.external_declarations.declarators_of.Given as goal

abbrev pub invariant-loop-declarator : goal.invariant-loop-declarator
invariant-loop-declarator l = declarators (state l.initial.cx) (specified_view l.base) l.place (map init_declarator_view l.declarators) ≡ declarators (state l.cx) (specified_view l.base) l.place (map init_declarator_view (drop l.declarator-index l.declarators))
