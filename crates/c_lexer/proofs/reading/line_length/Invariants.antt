use Rattle.std.proofs.Common.{◌≡◌, ◌≤◌, ◌+◌, ◌-◌, drop, length}
use Rattle.c_lexer.specs.ByteClasses.{is_no_line_end}
use Rattle.c_lexer.specs.Reading.{prefix_length}
use Rattle.c_lexer.proofs.reading.line_length.Given as goal

abbrev pub invariant-loop-at : goal.invariant-loop-at
invariant-loop-at l = (l.at + prefix_length is_no_line_end (drop l.at l.z) ≡ prefix_length is_no_line_end l.z) × (l.at ≤ length l.z)

abbrev pub decreases-loop-at : goal.decreases-loop-at
decreases-loop-at l = length l.z - l.at
