use Rattle.std.proofs.Common.{◌≡◌, drop, false}
use Rattle.c_lexer.specs.Reading.{close_at}
use Rattle.c_lexer.proofs.reading.close_at.Given as goal

abbrev pub invariant-loop-at : goal.invariant-loop-at
invariant-loop-at l = close_at l.quote l.escapes l.escaped l.at (drop l.at l.z) ≡ close_at l.quote l.escapes false 0 l.z
