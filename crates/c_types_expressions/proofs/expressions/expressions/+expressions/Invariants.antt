use Rattle.std.proofs.Common.{◌≡◌, map}
use Rattle.c_layout.specs.SyntaxTrees.{tree_of, trees}
use Rattle.c_types_scopes.specs.Answers.{after}
use Rattle.c_types_scopes.specs.States.{state}
use Rattle.c_types_operands.specs.Operands.{operand_view}
use Rattle.c_types_expressions.specs.Expressions.Expressions as spec
use Rattle.c_types_expressions.proofs.expressions.Walks.{behind, rest_of}
use Rattle.c_types_expressions.proofs.expressions.expressions.+expressions.Given as goal

abbrev pub invariant-lengths-loop-e : goal.invariant-lengths-loop-e
invariant-lengths-loop-e l = spec.lengths (state l.fn.cx) (trees (map tree_of l.expressions)) ≡ after (spec.lengths (state l.cx) (rest_of l.expressions l.e-index)) (behind l.made.items)

abbrev pub invariant-arguments-loop-e : goal.invariant-arguments-loop-e
invariant-arguments-loop-e l = spec.operands (state l.fn.cx) (trees (map tree_of l.expressions)) ≡ after (spec.operands (state l.cx) (rest_of l.expressions l.e-index)) (behind (map operand_view l.made.items))
