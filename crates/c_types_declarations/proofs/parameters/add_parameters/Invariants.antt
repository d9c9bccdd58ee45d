use Rattle.std.proofs.Common.{◌≡◌, map, drop}
use Rattle.c_layout.specs.Types.{view}
use Rattle.c_layout.specs.DeclarationTrees.{parameter_view}
use Rattle.c_types_scopes.specs.Answers.{after}
use Rattle.c_types_scopes.specs.States.{state}
use Rattle.c_types_expressions.proofs.expressions.Walks.{behind}
use Rattle.c_types_declarations.specs.FunctionHeads.{add_parameters}
use Rattle.c_types_declarations.proofs.parameters.add_parameters.Given as goal

abbrev pub invariant-loop-parameter : goal.invariant-loop-parameter
invariant-loop-parameter l = add_parameters (state l.fn.cx) (map parameter_view l.parameters) ≡ after (add_parameters (state l.cx) (map parameter_view (drop l.parameter-index l.parameters))) (behind (map view l.made.items))
