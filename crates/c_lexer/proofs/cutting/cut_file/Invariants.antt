use Rattle.std.proofs.Common.{length}
use Rattle.c_lexer.proofs.Along.{Goes}
use Rattle.c_lexer.proofs.cutting.cut_file.Given as goal

abbrev pub invariant-loop-rest : goal.invariant-loop-rest
invariant-loop-rest l = Goes l.file l.bytes l.rest l.state l.tokens l.cursor

abbrev pub decreases-loop-rest : goal.decreases-loop-rest
decreases-loop-rest l = length l.rest
