use Rattle.std.proofs.Common.{◌≡◌, ◌++◌, take, drop}
use Rattle.cc_base.specs.Rows.{row_round}
use Rattle.fixpoint.proofs.solver.arrival.round_row.Given as goal

abbrev pub invariant-loop-i : goal.invariant-loop-i
invariant-loop-i g l = record {
  row : take l.i l.row ++ row_round g.C.Lattice.lattice l.list (drop l.i l.fn.row) ≡ row_round g.C.Lattice.lattice l.list l.fn.row;
  rest : drop l.i l.row ≡ drop l.i l.fn.row;
}
