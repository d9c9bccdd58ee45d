use Rattle.std.proofs.Common.{◌≡◌, map}
use Rattle.lower.specs.Inlining.Inlinings.{resolved}
use Rattle.lower_templates.specs.Views.ProgramViews.{edge}
use Rattle.lower.proofs.inlining.resolved_edges.resolved.Given as goal

abbrev pub invariant-loop-edge : goal.invariant-loop-edge
invariant-loop-edge l = map edge l.out.items ≡ resolved l.labels (map edge l.yielded)
