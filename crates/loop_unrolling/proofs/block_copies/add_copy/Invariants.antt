use Rattle.std.proofs.Common.{◌≡◌, ◌++◌, map, drop}
use Rattle.lower_templates.specs.Views.ProgramViews.{block}
use Rattle.loop_unrolling.specs.Turns as spec
use Rattle.loop_unrolling.proofs.block_copies.add_copy.Given as goal

abbrev pub invariant-loop-found : goal.invariant-loop-found
invariant-loop-found l = map block l.made.items ++ map (spec.block_copy l.first l.is_last) (map block (drop l.found-index l.blocks)) ≡ map block l.initial.made.items ++ map (spec.block_copy l.first l.is_last) (map block l.blocks)
