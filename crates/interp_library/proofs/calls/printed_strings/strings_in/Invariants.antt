use Rattle.std.proofs.Common.{◌≡◌, map, drop}
use Rattle.memory_model.specs.Effects.LibraryCalls.{strings_in}
use Rattle.interp_memory.specs.ByteViews.{scalar_view}
use Rattle.interp_accesses.specs.WorldViews.{world_view}
use Rattle.interp_accesses.specs.Reaches.{reach_view}
use Rattle.interp_library.proofs.calls.StringSteps.{behind_reaches}
use Rattle.interp_library.proofs.calls.printed_strings.strings_in.Given as goal

abbrev pub invariant-loop-argument : goal.invariant-loop-argument
invariant-loop-argument l = strings_in (map scalar_view l.arguments) (world_view l.initial.w) ≡ behind_reaches (map reach_view l.strings.items) (strings_in (map scalar_view (drop l.argument-index l.arguments)) (world_view l.w))
