use Rattle.std.proofs.Common.{◌≡◌, map, drop}
use Rattle.c_layout.specs.DeclarationTrees.{enumerator_view}
use Rattle.c_types_scopes.specs.Answers.{after}
use Rattle.c_types_scopes.specs.States.{state}
use Rattle.c_types_expressions.proofs.expressions.Walks.{behind}
use Rattle.c_types_declarations.specs.Enumerations.{enumerator_values}
use Rattle.c_types_declarations.proofs.enumerations.enumerator_values.Given as goal

abbrev pub invariant-loop-enumerator : goal.invariant-loop-enumerator
invariant-loop-enumerator l = enumerator_values (state l.fn.cx) (map enumerator_view l.enumerators) l.fn.before ≡ after (enumerator_values (state l.cx) (map enumerator_view (drop l.enumerator-index l.enumerators)) l.numbering.last) (behind l.numbering.values.items)
