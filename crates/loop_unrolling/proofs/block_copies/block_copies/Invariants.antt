use Rattle.std.proofs.Common.{◌≡◌, ◌≤◌, map}
use Rattle.lower_templates.specs.Views.ProgramViews.{block}
use Rattle.loop_unrolling.specs.Turns as spec
use Rattle.loop_unrolling.proofs.block_copies.block_copies.Given as goal

abbrev pub invariant-loop-copy : goal.invariant-loop-copy
invariant-loop-copy l = (l.copy ≤ l.turns.copies) × (map block l.made.items ≡ spec.blocks_below l.turns (map block l.blocks) l.copy)
