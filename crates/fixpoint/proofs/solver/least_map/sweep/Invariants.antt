use Rattle.std.proofs.Common.{◌+◌, ◌≤◌}
use Rattle.fixpoint.proofs.solver.SweepLaws.{Sweeping}
use Rattle.fixpoint.proofs.solver.least_map.sweep.Given as goal

abbrev pub invariant-loop-edge : goal.invariant-loop-edge
invariant-loop-edge g l = record {
  sweeping : Sweeping g.S.Cell.Lattice.lattice (g.S.System.machine l.system) l.initial.pool l.initial.map l.spare.index l.pool l.map l.following l.edge l.grew;
  ticks : l.steps ≤ l.initial.steps + l.edge;
}
