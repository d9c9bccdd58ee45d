use Rattle.std.proofs.Common.{arith}
use Rattle.transfer_system.specs.BoundedRows.CellKinds.{all_kinds, kinds_in}
use Rattle.transfer_system.specs.BoundedRows.FittedRows.{cells_fit}
use Rattle.transfer_system.proofs.bounded_rows.CellSteps.{fit_step, rest_stays}
use Rattle.transfer_system.proofs.bounded_rows.fitted_rows.fit_cells.Goals as goal

pub loop-at-preserved : goal.loop-at-preserved
loop-at-preserved g c = record {
  row = fit_step g.I.Lattice.lattice g.I.IntDomain.numbers c.args.list.now c.args.reach
      (kinds_in c.args.bases.now c.loop-at.left) (kinds_in c.args.bases.now c.fit_next-left.result) c.loop-at.row c.args.row.now
      (cells_fit g.I.Lattice.lattice g.I.IntDomain.numbers c.args.list.now c.args.reach (all_kinds c.args.bases.now) c.args.row.now)
      c.loop-at.at c.index-row-at.result c.fit_next-left.new.cell (omega arith) c.index-row-at.is c.loop-at.invariant.rest
      c.fit_next-left.ensures.cell c.fit_next-left.ensures.left c.loop-at.invariant.row;
  rest = rest_stays c.loop-at.row c.args.row.now c.loop-at.at c.fit_next-left.new.cell c.loop-at.invariant.rest;
}
