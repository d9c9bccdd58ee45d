use Rattle.std.proofs.Common.{◌≡◌, ◌++◌, drop}
use Rattle.lower_templates.proofs.views.copied_shapes.base_copies.Given as goal

abbrev pub invariant-loop-base : goal.invariant-loop-base
invariant-loop-base l = l.list.items ++ drop l.base-index l.bases ≡ l.bases
