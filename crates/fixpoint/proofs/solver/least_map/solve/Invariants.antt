use Rattle.std.proofs.Common.{◌+◌, ◌*◌, ◌≤◌}
use Rattle.fixpoint.specs.Solver.Progress.{IsSound, HasEntry, IsMarked, potential}
use Rattle.fixpoint.specs.Solver.RowMap.{rows_in, state_in, Changed}
use Rattle.fixpoint.proofs.solver.least_map.solve.Given as goal

abbrev pub invariant-loop : goal.invariant-loop
invariant-loop g l = record {
  changed : Changed l.initial.pool l.initial.map l.spare.index l.pool l.map;
  sound : IsSound g.S.Cell.Lattice.lattice (g.S.System.machine l.system) (rows_in l.pool l.map);
  entry : HasEntry g.S.Cell.Lattice.lattice (g.S.System.machine l.system) (rows_in l.pool l.map);
  marked : IsMarked g.S.Cell.Lattice.lattice (g.S.System.machine l.system) (state_in l.pool l.map);
  ticks : l.steps + (g.S.System.machine l.system).edges * (potential (g.S.System.machine l.system) (rows_in l.pool l.map) + 1) ≤ l.initial.steps + (g.S.System.machine l.system).edges * (potential (g.S.System.machine l.system) (rows_in l.initial.pool l.initial.map) + 1);
}

abbrev pub decreases-loop : goal.decreases-loop
decreases-loop g l = potential (g.S.System.machine l.system) (rows_in l.pool l.map)
