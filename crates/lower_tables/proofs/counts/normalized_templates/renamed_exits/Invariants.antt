use Rattle.std.proofs.Common.{◌≡◌}
use Rattle.lower_templates.specs.Worklist.Pieces.{exits_view}
use Rattle.lower_tables.specs.Counts.NormalizedTemplates.{names_of, renamed_exits}
use Rattle.lower_tables.proofs.counts.normalized_templates.renamed_exits.Given as goal

abbrev pub invariant-loop-exit : goal.invariant-loop-exit
invariant-loop-exit l = exits_view l.out.items ≡ renamed_exits (names_of l.names) (exits_view l.yielded)
