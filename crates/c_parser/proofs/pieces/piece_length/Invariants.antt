use Rattle.std.proofs.Common.{◌≡◌, ◌≤◌, ◌+◌, drop}
use Rattle.c_parser.specs.Pieces.{length_from, piece_length}
use Rattle.c_parser.proofs.pieces.piece_length.Given as goal

abbrev pub invariant-loop-at : goal.invariant-loop-at
invariant-loop-at l = (l.at + length_from l.progress (drop l.at l.terminals) ≡ piece_length l.terminals) × (l.progress.depth ≤ l.at)
