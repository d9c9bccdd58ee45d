use Rattle.std.proofs.Common.{◌≡◌}
use Rattle.store_cells.specs.Walks.{turns}
use Rattle.store_structs.specs.PaddingWrites.{pad_class}
use Rattle.store_structs.proofs.padding_writes.pad_classes.Given as goal

abbrev pub invariant-loop-at : goal.invariant-loop-at
invariant-loop-at g l = l.row ≡ turns (pad_class g.I.Lattice.lattice g.I.IntDomain.numbers l.model l.base) l.at l.initial.row
