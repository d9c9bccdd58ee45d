use Rattle.std.proofs.Common.{◌≡◌}
use Rattle.store_cells.specs.Walks.{turns}
use Rattle.store_objects.specs.Allocations.{fresh_class}
use Rattle.store_objects.proofs.allocation.fresh_classes.Given as goal

abbrev pub invariant-loop-class : goal.invariant-loop-class
invariant-loop-class g l = l.row ≡ turns (fresh_class g.I.Lattice.lattice g.I.IntDomain.numbers l.model l.bases l.new l.fresh) l.class l.initial.row
