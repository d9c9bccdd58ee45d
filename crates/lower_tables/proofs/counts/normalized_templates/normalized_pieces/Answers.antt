use Rattle.lower_templates.specs.Worklist.Pieces.{piece_view}
use Rattle.lower_tables.specs.Counts.NormalizedTemplates.{names_of}
use Rattle.lower_tables.proofs.counts.Settling.{normalized_next}
use Rattle.lower_tables.proofs.counts.normalized_templates.normalized_pieces.Goals as goal

pub loop-piece-preserved : goal.loop-piece-preserved
loop-piece-preserved c =
    normalized_next piece_view c.args.table.now (names_of c.args.names.now) c.loop-piece.yielded c.in-Some.piece _ _ c.loop-piece.invariant c.in_ok-add_if.ensures
