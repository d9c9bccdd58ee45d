use Rattle.std.proofs.Common.{◌≡◌, ◌++◌, map, drop}
use Rattle.lower_templates.specs.Worklist.Acts.{step}
use Rattle.lower_templates.proofs.views.copied_operations.instruction_copies.Given as goal

abbrev pub invariant-loop-one : goal.invariant-loop-one
invariant-loop-one l = map step l.list.items ++ map step (drop l.one-index l.instructions) ≡ map step l.instructions
