use Rattle.std.proofs.Common.{◌≡◌, map, drop}
use Rattle.lower_templates.specs.Worklist.Pieces.{piece_view}
use Rattle.lower_objects.specs.Counts.PieceCounts.{temps}
use Rattle.lower_objects.proofs.counts.function_counts.temps.Given as goal

abbrev pub invariant-loop-piece : goal.invariant-loop-piece
invariant-loop-piece l = temps l.table (map piece_view (drop l.piece-index l.pieces)) l.most ≡ temps l.table (map piece_view l.pieces) 0
