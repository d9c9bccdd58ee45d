use Rattle.std.proofs.Common.{◌≡◌, map, drop}
use Rattle.lower_templates.specs.Worklist.Pieces.{piece_view}
use Rattle.lower_objects.specs.Counts.BaseCounts as spec
use Rattle.lower_objects.proofs.counts.object_counts.inner_bases.Given as goal

abbrev pub invariant-loop-piece : goal.invariant-loop-piece
invariant-loop-piece l = spec.inner_bases l.table (map piece_view (drop l.piece-index l.pieces)) l.count ≡ spec.inner_bases l.table (map piece_view l.pieces) spec.no_bases
