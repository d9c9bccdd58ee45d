use Rattle.fixpoint.specs.Solver.RowMap.{IsHeld}
use Rattle.certificate_programs.proofs.programs.smaller_maps.cut_entries.Given as goal

abbrev pub invariant-loop-block : goal.invariant-loop-block
invariant-loop-block l = IsHeld l.pool l.map
