use Rattle.std.proofs.Common.{◌≡◌, map, drop}
use Rattle.lower_templates.specs.Views.ProgramViews.{block}
use Rattle.loop_unrolling.specs.SplitCounts as spec
use Rattle.loop_unrolling.proofs.split_counts.instruction_count.Given as goal

abbrev pub invariant-loop-found : goal.invariant-loop-found
invariant-loop-found l = spec.instructions_from l.count (map block (drop l.found-index l.blocks)) ≡ spec.instruction_count (map block l.blocks)
