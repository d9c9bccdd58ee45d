use Rattle.std.proofs.Common.{◌≡◌, drop}
use Rattle.store_cells.specs.Walks.{walk}
use Rattle.transfer_edges.specs.StartRows.{parameter_at}
use Rattle.transfer_edges.proofs.start_rows.start_parameters.Given as goal

abbrev pub invariant-loop-at : goal.invariant-loop-at
invariant-loop-at g l = walk (parameter_at g.I.Lattice.lattice g.I.IntDomain.numbers l.flow) l.at (drop l.at l.parameters) l.row ≡ walk (parameter_at g.I.Lattice.lattice g.I.IntDomain.numbers l.flow) 0 l.parameters l.initial.row
