use Rattle.std.proofs.Common.{◌≡◌, map, drop}
use Rattle.lower_templates.specs.Worklist.Pieces.{piece_view}
use Rattle.lower_objects.specs.Counts.PieceCounts.{if_used}
use Rattle.lower_objects.proofs.counts.function_counts.if_used.Given as goal

abbrev pub invariant-loop-piece : goal.invariant-loop-piece
invariant-loop-piece l = if_used (map piece_view (drop l.piece-index l.pieces)) l.count ≡ if_used (map piece_view l.pieces) 0
