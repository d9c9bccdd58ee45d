use Rattle.std.proofs.Common.{◌≡◌, ◌++◌, take, drop, map}
use Rattle.transfer_edges.specs.StartRows.{no_value}
use Rattle.transfer_edges.proofs.start_rows.empty_values.Given as goal

abbrev pub invariant-loop-at : goal.invariant-loop-at
invariant-loop-at g l = record {
  row : take l.at l.row ++ map (no_value g.I.Lattice.lattice) (drop l.at l.fn.row) ≡ map (no_value g.I.Lattice.lattice) l.fn.row;
  rest : drop l.at l.row ≡ drop l.at l.fn.row;
}
