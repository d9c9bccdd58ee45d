use Rattle.std.proofs.Common.{◌≡◌, drop, Some}
use Rattle.store_cells.specs.Walks.{walk}
use Rattle.transfer_edges.specs.StartRows.{reached_row, store_at}
use Rattle.transfer_edges.proofs.start_rows.start_stores.Given as goal

abbrev pub invariant-loop-at : goal.invariant-loop-at
invariant-loop-at g l = walk (store_at g.I.Lattice.lattice g.I.IntDomain.numbers l.flow l.base l.size) l.at (drop l.at l.stores) (reached_row l.reached l.row) ≡ walk (store_at g.I.Lattice.lattice g.I.IntDomain.numbers l.flow l.base l.size) 0 l.stores (Some l.initial.row)
