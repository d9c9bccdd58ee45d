use Rattle.std.proofs.Common.{◌≡◌, drop, None}
use Rattle.store_cells.specs.Walks.{walk}
use Rattle.store_cells.specs.FirstZeroWrites.{first_covered}
use Rattle.store_cells.proofs.first_zero_writes.covering_part.Given as goal

abbrev pub invariant-loop-at : goal.invariant-loop-at
invariant-loop-at l = walk (first_covered l.window) l.at (drop l.at l.parts) l.found ≡ walk (first_covered l.window) 0 l.parts None
