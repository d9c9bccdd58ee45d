use Rattle.std.proofs.Common.{length}
use Rattle.c_lexer.proofs.Splices.{Moves}
use Rattle.c_lexer.proofs.splicing.moved.Given as goal

abbrev pub invariant-steps : goal.invariant-steps
invariant-steps l = Moves l.line-2 l.column-2 l.count l.rest-2 l.line l.column l.left l.rest

abbrev pub decreases-steps : goal.decreases-steps
decreases-steps l = length l.rest
