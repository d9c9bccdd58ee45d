use Rattle.std.proofs.Common.{◌≡◌, map, drop}
use Rattle.lower_templates.specs.Worklist.Pieces.{piece_view}
use Rattle.lower_tables.specs.Counts.Preparations.{are_counted}
use Rattle.lower_tables.proofs.counts.prepared_functions.check_calls.Given as goal

abbrev pub invariant-loop-piece : goal.invariant-loop-piece
invariant-loop-piece l = are_counted l.table (map piece_view (drop l.piece-index l.pieces)) ≡ are_counted l.table (map piece_view l.pieces)
