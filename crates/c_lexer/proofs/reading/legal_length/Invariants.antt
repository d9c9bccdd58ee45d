use Rattle.std.proofs.Common.{◌≡◌, ◌+◌, ◌-◌, drop, length}
use Rattle.c_lexer.specs.Pieces.{may_stand}
use Rattle.c_lexer.specs.Reading.{prefix_length}
use Rattle.c_lexer.proofs.reading.legal_length.Given as goal

abbrev pub invariant-loop-at : goal.invariant-loop-at
invariant-loop-at l = l.at + prefix_length (may_stand l.shape) (drop l.at l.z) ≡ prefix_length (may_stand l.shape) l.z

abbrev pub decreases-loop-at : goal.decreases-loop-at
decreases-loop-at l = length l.z - l.at
