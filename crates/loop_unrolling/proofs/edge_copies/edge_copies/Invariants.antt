use Rattle.std.proofs.Common.{◌≡◌, ◌≤◌, map}
use Rattle.lower_templates.specs.Views.ProgramViews.{edge}
use Rattle.loop_unrolling.specs.Turns as spec
use Rattle.loop_unrolling.proofs.edge_copies.edge_copies.Given as goal

abbrev pub invariant-loop-copy : goal.invariant-loop-copy
invariant-loop-copy l = (l.copy ≤ l.turns.copies) × (map edge l.made.items ≡ spec.edges_below l.turns (map edge l.edges) l.copy)
