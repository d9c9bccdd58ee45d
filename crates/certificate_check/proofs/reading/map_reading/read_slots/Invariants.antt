use Rattle.std.proofs.Common.{◌≡◌, ◌-◌, ◌++◌, take, length}
use Rattle.fixpoint.specs.Solver.RowMap.{rows_in}
use Rattle.certificate_check.specs.Reading.FilledMaps.{Filled}
use Rattle.certificate_check.specs.Reading.MapReading.{rows_read, blocks_behind}
use Rattle.certificate_check.proofs.reading.map_reading.read_slots.Given as goal

abbrev pub invariant-loop-block : goal.invariant-loop-block
invariant-loop-block l = record {
  filled : Filled l.initial.pool l.pool l.map l.block;
  reading : blocks_behind l.greatest l.text l.read (length l.map - l.block) ≡ blocks_behind l.greatest l.text l.fn.reading (length l.map);
  rows : take l.block (rows_in l.pool l.map) ++ rows_read l.greatest l.text l.read (length l.map - l.block) ≡ rows_read l.greatest l.text l.fn.reading (length l.map);
}
