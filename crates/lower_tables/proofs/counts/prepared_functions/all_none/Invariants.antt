use Rattle.std.proofs.Common.{◌≡◌, replicate, None}
use Rattle.lower_tables.proofs.counts.prepared_functions.all_none.Given as goal

abbrev pub invariant-loop-at : goal.invariant-loop-at
invariant-loop-at g l = l.list.items ≡ replicate l._at None
