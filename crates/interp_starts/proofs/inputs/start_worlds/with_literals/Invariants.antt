use Rattle.std.proofs.Common.{◌≡◌, map, drop}
use Rattle.c_layout.specs.CheckedUnits.{literal_view}
use Rattle.interp_accesses.specs.WorldViews.{world_view}
use Rattle.interp_starts.specs.Starts.Rewrites.{literals_made}
use Rattle.interp_starts.proofs.inputs.start_worlds.with_literals.Given as goal

abbrev pub invariant-loop-literal : goal.invariant-loop-literal
invariant-loop-literal l = literals_made (map literal_view (drop l.literal-index l.literals)) (world_view l.w) ≡ literals_made (map literal_view l.literals) (world_view l.initial.w)
