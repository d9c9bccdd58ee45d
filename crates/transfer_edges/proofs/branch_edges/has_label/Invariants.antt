use Rattle.std.proofs.Common.{◌≡◌, drop}
use Rattle.transfer_edges.specs.Edges.{has_label}
use Rattle.transfer_edges.proofs.branch_edges.has_label.Given as goal

abbrev pub invariant-loop-at : goal.invariant-loop-at
invariant-loop-at l = has_label (drop l.at l.labels) l.number ≡ has_label l.labels l.number
