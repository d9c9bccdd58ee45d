use Rattle.std.proofs.Common.{◌≡◌, drop}
use Rattle.transfer_edges.specs.StartRows.{base_in}
use Rattle.transfer_edges.proofs.start_rows.base_in.Given as goal

abbrev pub invariant-loop-at : goal.invariant-loop-at
invariant-loop-at l = base_in (drop l.at l.objects) l.object ≡ base_in l.objects l.object
