use Rattle.std.proofs.Common.{◌≡◌}
use Rattle.certificate_check.specs.Reading.CellReading.{row_reading, cells_read}
use Rattle.certificate_check.proofs.reading.cell_reading.read_cells.Given as goal

abbrev pub invariant-loop-owed : goal.invariant-loop-owed
invariant-loop-owed l = cells_read l.greatest l.text l.owed (row_reading l.read l.row) ≡ cells_read l.greatest l.text l.count (row_reading l.fn.reading l.fn.row)

abbrev pub decreases-loop-owed : goal.decreases-loop-owed
decreases-loop-owed l = l.owed
