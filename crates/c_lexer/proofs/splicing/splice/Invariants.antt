use Rattle.std.proofs.Common.{◌≡◌, ◌++◌, length}
use Rattle.c_lexer.specs.Splicing.{spliced, bytes_of}
use Rattle.c_lexer.proofs.splicing.splice.Given as goal

abbrev pub invariant-loop-cursor : goal.invariant-loop-cursor
invariant-loop-cursor l = l.characters.items ++ bytes_of l.cursor ≡ bytes_of (spliced l.bytes)

abbrev pub decreases-loop-cursor : goal.decreases-loop-cursor
decreases-loop-cursor l = length l.cursor
