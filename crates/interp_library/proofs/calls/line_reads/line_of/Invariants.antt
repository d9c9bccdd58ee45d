use Rattle.std.proofs.Common.{◌≡◌, ◌-◌}
use Rattle.memory_model.specs.Effects.LibraryCalls.{line_of}
use Rattle.interp_memory.specs.ByteViews.{contents_view}
use Rattle.interp_accesses.specs.WorldViews.{world_view}
use Rattle.interp_library.proofs.calls.LineSteps.{behind_characters}
use Rattle.interp_library.proofs.calls.line_reads.line_of.Given as goal

abbrev pub invariant-loop-k : goal.invariant-loop-k
invariant-loop-k l = line_of l.model l.count (world_view l.initial.w) ≡ behind_characters (contents_view l.line.items) (line_of l.model (l.count - l.k) (world_view l.w))
