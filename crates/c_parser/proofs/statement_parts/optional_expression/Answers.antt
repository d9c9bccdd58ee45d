use Rattle.c_layout.specs.SyntaxTrees.{tree_of}
use Rattle.c_parser.proofs.Parts.{nothing, something}
use Rattle.c_parser.proofs.statement_parts.optional_expression.Goals as goal

pub returns-then-accept-clause-found : goal.returns-then-accept-clause-found
returns-then-accept-clause-found c = nothing c.args.scope.typedefs.now c.args.budget c.if-accept.ensures.yes

pub returns-clause-found : goal.returns-clause-found
returns-clause-found c = something (tree_of c.unboxed-value.result) c.if-accept.ensures.no c.in_ok-found.ensures.found c.in_ok-expect.ensures.sign c.unboxed-value.ensures
