use Rattle.std.proofs.Common.{◌≡◌}
use Rattle.store_cells.specs.Walks.{turns}
use Rattle.store_objects.specs.Allocations.{join_part}
use Rattle.store_objects.proofs.allocation.join_zeros.Given as goal

abbrev pub invariant-loop-at : goal.invariant-loop-at
invariant-loop-at g l = l.row ≡ turns (join_part g.I.Lattice.lattice g.I.IntDomain.numbers l.new l.old) l.at l.initial.row
