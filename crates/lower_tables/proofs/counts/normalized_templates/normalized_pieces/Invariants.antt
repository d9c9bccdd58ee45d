use Rattle.std.proofs.Common.{◌≡◌, map}
use Rattle.lower_templates.specs.Worklist.Pieces.{piece_view}
use Rattle.lower_tables.specs.Counts.NormalizedTemplates.{names_of, settling, with_all, nothing_normalized}
use Rattle.lower_tables.proofs.counts.normalized_templates.normalized_pieces.Given as goal

abbrev pub invariant-loop-piece : goal.invariant-loop-piece
invariant-loop-piece l = settling l.found ≡ with_all l.table (names_of l.names) (map piece_view l.yielded) nothing_normalized
