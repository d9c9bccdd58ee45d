use Rattle.std.proofs.Common.{◌≡◌, ◌++◌, drop, map}
use Rattle.fixpoint.specs.Solver.RowMap.{rows_in}
use Rattle.diagnose.specs.Diagnostics.AdmittedRules.{rows_pairs}
use Rattle.diagnose.proofs.diagnostics.map_diagnoses.diagnose_map.Given as goal

abbrev pub invariant-loop-block : goal.invariant-loop-block
invariant-loop-block g l = l.out.items ++ rows_pairs g.I.Lattice.lattice g.I.IntDomain.numbers l.flow l.block (rows_in l.pool (drop l.block l.map)) ≡ rows_pairs g.I.Lattice.lattice g.I.IntDomain.numbers l.flow 0 (rows_in l.pool l.map)
