use Rattle.std.proofs.Common.{◌≡◌, ◌+◌}
use Rattle.store_cells.specs.RowPositions.{capped}
use Rattle.store_cells.specs.Walks.{turns}
use Rattle.store_structs.specs.PaddingWrites.{padded_view, covered_leaf}
use Rattle.store_structs.proofs.padding_writes.leaf_bytes.Given as goal

abbrev pub invariant-loop-number : goal.invariant-loop-number
invariant-loop-number l = l.covered ≡ turns (covered_leaf l.model (padded_view l.padded) l.window.lo (capped (l.window.hi + 1))) l.number 0
