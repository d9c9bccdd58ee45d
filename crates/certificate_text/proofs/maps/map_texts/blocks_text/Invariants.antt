use Rattle.std.proofs.Common.{◌≡◌, ◌++◌, drop}
use Rattle.fixpoint.specs.Solver.RowMap.{rows_in}
use Rattle.certificate_text.specs.Maps.MapTexts.{blocks_text}
use Rattle.certificate_text.proofs.maps.map_texts.blocks_text.Given as goal

abbrev pub invariant-loop-block : goal.invariant-loop-block
invariant-loop-block l = l.text.items ++ blocks_text (rows_in l.pool (drop l.block l.map)) ≡ blocks_text (rows_in l.pool l.map)
