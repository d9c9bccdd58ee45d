use Rattle.std.proofs.Common.{◌≡◌}
use Rattle.store_cells.specs.Walks.{turns}
use Rattle.store_cells.specs.FirstZeroWrites.{set_part}
use Rattle.store_cells.proofs.first_zero_writes.set_zeros.Given as goal

abbrev pub invariant-loop-at : goal.invariant-loop-at
invariant-loop-at g l = l.row ≡ turns (set_part l.base l.zero) l.at l.initial.row
