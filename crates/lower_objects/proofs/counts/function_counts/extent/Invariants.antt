use Rattle.std.proofs.Common.{◌≡◌, map, drop}
use Rattle.lower_templates.specs.Worklist.Pieces.{piece_view}
use Rattle.lower_objects.specs.Counts.PieceCounts.{with_pieces, extent}
use Rattle.lower_objects.proofs.counts.function_counts.extent.Given as goal

abbrev pub invariant-loop-piece : goal.invariant-loop-piece
invariant-loop-piece l = with_pieces l.table (map piece_view (drop l.piece-index l.pieces)) l.at ≡ extent l.table (map piece_view l.pieces) l.is_empty
