use Rattle.std.proofs.Common.{◌≡◌}
use Rattle.store_cells.specs.Walks.{turns}
use Rattle.store_objects.specs.Allocations.{join_cell}
use Rattle.store_objects.proofs.allocation.join_values.Given as goal

abbrev pub invariant-loop-at : goal.invariant-loop-at
invariant-loop-at g l = l.row ≡ turns (join_cell g.I.Lattice.lattice g.I.IntDomain.numbers l.new l.old) l.at l.initial.row
