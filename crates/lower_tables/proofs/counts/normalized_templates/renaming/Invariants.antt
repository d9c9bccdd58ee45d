use Rattle.std.proofs.Common.{◌≡◌, map, drop}
use Rattle.lower_templates.specs.Worklist.Pieces.{piece_view}
use Rattle.lower_tables.specs.Counts.NormalizedTemplates.{names_of, with_pieces, renaming}
use Rattle.lower_tables.proofs.counts.normalized_templates.renaming.Given as goal

abbrev pub invariant-loop-piece : goal.invariant-loop-piece
invariant-loop-piece l = with_pieces l.table (map piece_view (drop l.piece-index l.pieces)) (names_of l.found) ≡ renaming l.table (map piece_view l.pieces) l.labels
