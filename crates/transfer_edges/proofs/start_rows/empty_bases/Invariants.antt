use Rattle.std.proofs.Common.{◌≡◌, drop}
use Rattle.store_cells.specs.Walks.{walk}
use Rattle.transfer_edges.specs.StartRows.{empty_base_at}
use Rattle.transfer_edges.proofs.start_rows.empty_bases.Given as goal

abbrev pub invariant-loop-n : goal.invariant-loop-n
invariant-loop-n g l = walk (empty_base_at g.I.Lattice.lattice) l.n (drop l.n l.bases) l.row ≡ walk (empty_base_at g.I.Lattice.lattice) 0 l.bases l.initial.row
