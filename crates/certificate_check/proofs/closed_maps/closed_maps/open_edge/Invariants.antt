use Rattle.std.proofs.Common.{◌≡◌, ℕ}
use Rattle.fixpoint.specs.Pool.Pool.{SameBut}
use Rattle.fixpoint.specs.Solver.RowMap.{rows_in}
use Rattle.certificate_check.specs.ClosedMaps.MapFaults.{EdgesClosed}
use Rattle.certificate_check.proofs.closed_maps.closed_maps.open_edge.Given as goal

abbrev pub invariant-loop-edge : goal.invariant-loop-edge
invariant-loop-edge g l = record {
  same_but : SameBut l.initial.pool l.pool l.spare.index;
  closed : EdgesClosed g.S.Cell.Lattice.lattice (g.S.System.machine l.system) (rows_in l.initial.pool l.map) l.edge;
}
