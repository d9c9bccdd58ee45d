use Rattle.std.proofs.Common.{◌≡◌, map, drop}
use Rattle.memory_model.specs.Effects.LibraryCalls.{all_scanned}
use Rattle.interp_accesses.specs.WorldViews.{world_view}
use Rattle.interp_accesses.specs.Reaches.{reach_view}
use Rattle.interp_library.proofs.calls.printed_strings.all_scanned.Given as goal

abbrev pub invariant-loop-reach : goal.invariant-loop-reach
invariant-loop-reach l = all_scanned (map reach_view l.strings) (world_view l.initial.w) ≡ all_scanned (map reach_view (drop l.reach-index l.strings)) (world_view l.w)
