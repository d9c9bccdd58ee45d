use Rattle.std.proofs.Common.{◌≡◌, ◌-◌, drop}
use Rattle.memory_model.specs.Effects.LibraryChecks.{scanned_first}
use Rattle.memory_model.specs.Effects.ScalarBytes.{contents}
use Rattle.interp_memory.specs.ByteViews.{bytes_view}
use Rattle.interp_accesses.specs.Scans.{behind_characters}
use Rattle.interp_accesses.proofs.string_scans.scanned_first.Given as goal

abbrev pub invariant-loop-k : goal.invariant-loop-k
invariant-loop-k l =
    behind_characters l.k (scanned_first (l.size - l.k) (contents (bytes_view (drop l.k l.bytes)))) ≡ scanned_first l.size (contents (bytes_view l.bytes))
