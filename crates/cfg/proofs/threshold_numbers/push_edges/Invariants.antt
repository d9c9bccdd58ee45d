use Rattle.std.proofs.Common.{◌≡◌, ◌++◌, drop}
use Rattle.cfg.specs.FlowNumbers.{edges_numbers}
use Rattle.cfg.proofs.threshold_numbers.push_edges.Given as goal

abbrev pub invariant-loop-at : goal.invariant-loop-at
invariant-loop-at l = l.out.items ++ edges_numbers (drop l.at l.edges) ≡ l.initial.out.items ++ edges_numbers l.edges
