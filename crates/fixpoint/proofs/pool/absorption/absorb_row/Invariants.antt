use Rattle.std.proofs.Common.{◌≡◌, ◌||◌, ◌++◌, not, take, drop}
use Rattle.cc_base.specs.Rows.{row_absorbed, row_leq}
use Rattle.fixpoint.proofs.pool.absorption.absorb_row.Given as goal

abbrev pub invariant-loop-i : goal.invariant-loop-i
invariant-loop-i g l = record {
  row : take l.i l.row ++ row_absorbed g.V.Lattice.lattice l.list l.rounding (drop l.i l.fn.row) (drop l.i l.with) ≡ row_absorbed g.V.Lattice.lattice l.list l.rounding l.fn.row l.with;
  rest : drop l.i l.row ≡ drop l.i l.fn.row;
  grown : (l.grew || not (row_leq g.V.Lattice.lattice (drop l.i l.with) (drop l.i l.fn.row))) ≡ not (row_leq g.V.Lattice.lattice l.with l.fn.row);
}
