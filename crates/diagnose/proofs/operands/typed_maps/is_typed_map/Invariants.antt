use Rattle.std.proofs.Common.{◌≡◌, drop}
use Rattle.fixpoint.specs.Solver.RowMap.{rows_in}
use Rattle.diagnose.specs.Operands.TypedRows.{are_typed_rows}
use Rattle.diagnose.proofs.operands.typed_maps.is_typed_map.Given as goal

abbrev pub invariant-loop-block : goal.invariant-loop-block
invariant-loop-block g l = are_typed_rows g.I.Lattice.lattice g.I.IntDomain.numbers l.flow l.block (rows_in l.pool (drop l.block l.map)) ≡ are_typed_rows g.I.Lattice.lattice g.I.IntDomain.numbers l.flow 0 (rows_in l.pool l.map)
