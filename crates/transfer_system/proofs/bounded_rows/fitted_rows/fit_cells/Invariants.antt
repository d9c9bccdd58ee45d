use Rattle.std.proofs.Common.{◌≡◌, ◌++◌, take, drop}
use Rattle.transfer_system.specs.BoundedRows.CellKinds.{kinds_in, all_kinds}
use Rattle.transfer_system.specs.BoundedRows.FittedRows.{cells_fit}
use Rattle.transfer_system.proofs.bounded_rows.fitted_rows.fit_cells.Given as goal

abbrev pub invariant-loop-at : goal.invariant-loop-at
invariant-loop-at g l = record {
  row : take l.at l.row ++ cells_fit g.I.Lattice.lattice g.I.IntDomain.numbers l.list l.reach (kinds_in l.bases l.left) (drop l.at l.fn.row) ≡ cells_fit g.I.Lattice.lattice g.I.IntDomain.numbers l.list l.reach (all_kinds l.bases) l.fn.row;
  rest : drop l.at l.row ≡ drop l.at l.fn.row;
}
