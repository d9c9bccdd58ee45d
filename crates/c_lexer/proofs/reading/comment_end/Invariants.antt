use Rattle.std.proofs.Common.{◌≡◌, drop, false}
use Rattle.c_lexer.specs.Reading.{comment_end}
use Rattle.c_lexer.proofs.reading.comment_end.Given as goal

abbrev pub invariant-loop-at : goal.invariant-loop-at
invariant-loop-at l = comment_end l.star l.at (drop l.at l.z) ≡ comment_end false 0 l.z
