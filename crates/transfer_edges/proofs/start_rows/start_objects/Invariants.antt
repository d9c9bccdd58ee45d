use Rattle.std.proofs.Common.{◌≡◌, drop, Some}
use Rattle.store_cells.specs.Walks.{walk}
use Rattle.transfer_edges.specs.StartRows.{reached_row, object_at}
use Rattle.transfer_edges.proofs.start_rows.start_objects.Given as goal

abbrev pub invariant-loop-at : goal.invariant-loop-at
invariant-loop-at g l = walk (object_at g.I.Lattice.lattice g.I.IntDomain.numbers l.flow) l.at (drop l.at l.objects) (reached_row l.reached l.row) ≡ walk (object_at g.I.Lattice.lattice g.I.IntDomain.numbers l.flow) 0 l.objects (Some l.initial.row)
